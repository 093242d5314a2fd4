-- The stages of a link, each of which leads its end on.
use Rattle.std.proofs.Common.{◌≡◌, ◌≢◌, ◌∙◌, ◌||◌, ◌<◌, ℕ, Bool, true, false, List, bytes_eq, Some, None, Ok, refl, sym}
use Rattle.std.proofs.Common.{ap, arith, inl, inr, length}
use Rattle.std.proofs.lemmas.Bool.{cases_Bool, lt-leb, ne_eqb}
use Rattle.macs_aes.specs.Keys.{octets_of_key, HasItsLength}
use Rattle.macs_fields.specs.declared.fields.Offset.TheVariants.{Zero}
use Rattle.macs_aes.specs.declared.keys.Key.{Key}
use Rattle.macs_aes.specs.declared.keys.Key.TheVariants.{Long, Short}
use Rattle.macs_config.specs.Apply.{config_after, apply}
use Rattle.macs_config.specs.Config.{Config, default, has_channel, is_spent, max_spent, rx_fingerprint, takes_key}
use Rattle.macs_config.specs.Config.{this_edition, tx_fingerprint}
use Rattle.macs_config.specs.Identity.{Identity}
use Rattle.macs_config.specs.Tables.{put, put_at}
use Rattle.macs_config.specs.declared.association.Protection.TheVariants.{Confidentiality}
use Rattle.macs_config.specs.declared.association.RxSa.{RxSa}
use Rattle.macs_config.specs.declared.association.TxSa.{TxSa}
use Rattle.macs_config.specs.declared.command.Command.TheVariants.{TxUse, TxRemove, RxAdd, RxRemove, TxInstall}
use Rattle.macs_config.specs.declared.command.Command.TheVariants.{RxInstall}
use Rattle.macs_config.proofs.Channels.{bytes_eq-itself, same_octets}
use Rattle.macs_config.proofs.Tables.{put-here, put-other, put_at-here, put_rx-here}
use Rattle.macs_commands.specs.Accepting.{Begins, Begun, HasKeys, IsGone, IsSound, IsUnspent, Meets, Receives, Rekeyed}
use Rattle.macs_commands.specs.Accepting.{Rekeys, Sends}
use Rattle.macs_commands.specs.Planning.{first_keys, other_end, own_key, pair_before, receive_both, receives}
use Rattle.macs_commands.specs.Planning.{remove_earlier, sci_of, start_sending, sends}
use Rattle.macs_commands.specs.declared.links.link.End.{End}
use Rattle.macs_commands.specs.declared.links.link.End.TheVariants.{Left, Right}
use Rattle.macs_commands.specs.declared.links.link.KeyPair.{KeyPair}
use Rattle.macs_commands.specs.declared.links.link.Link.{Link}

-- ---- a command that finds its place free, its key new and room for it is taken

key_taken : (key : Key) → HasItsLength key → takes_key this_edition (octets_of_key key) ≡ true
key_taken (Short octets) size = rw size refl
key_taken (Long octets) size = rw size refl

module _ (identity : Identity) (c : Config) where
  tx_installed : (an : ℕ) (key : Key) → c.tx an ≡ None
      → is_spent c.spent_tx (tx_fingerprint (octets_of_key key)) ≡ false
      → length c.spent_tx < max_spent → HasItsLength key
      → apply this_edition identity c (TxInstall an key 1 true 0) ≡ Ok (config_after c (TxInstall an key 1 true 0))
  tx_installed an key free new room size =
      rw (free, new, lt-leb max_spent (length c.spent_tx) room, key_taken key size) refl

  tx_used : (an : ℕ) (sa : TxSa) → c.tx an ≡ Some sa
      → apply this_edition identity c (TxUse an) ≡ Ok (config_after c (TxUse an))
  tx_used an sa there = rw there refl

  tx_removed : (an encoding : ℕ) (sa : TxSa) → c.tx an ≡ Some sa → c.encoding ≡ Some encoding → encoding ≢ an
      → apply this_edition identity c (TxRemove an) ≡ Ok (config_after c (TxRemove an))
  tx_removed an encoding sa there other differs = rw (there, other, ne_eqb encoding an differs) refl

  rx_added : (sci : List ℕ) → bytes_eq sci identity.sci ≡ false → has_channel c sci ≡ false → length c.channels < 32
      → apply this_edition identity c (RxAdd sci) ≡ Ok (config_after c (RxAdd sci))
  rx_added sci foreign free room = rw (foreign, free, lt-leb 32 (length c.channels) room) refl

  rx_installed : (sci : List ℕ) (an : ℕ) (key : Key) → has_channel c sci ≡ true → c.rx sci an ≡ None
      → is_spent c.spent_rx (rx_fingerprint sci (octets_of_key key)) ≡ false → length c.spent_rx < max_spent
      → HasItsLength key
      → apply this_edition identity c (RxInstall sci an key 1 0) ≡ Ok (config_after c (RxInstall sci an key 1 0))
  rx_installed sci an key channel free new room size =
      rw (channel, free, new, lt-leb max_spent (length c.spent_rx) room, key_taken key size) refl

  rx_removed : (sci : List ℕ) (an : ℕ) (sa : RxSa) → has_channel c sci ≡ true → c.rx sci an ≡ Some sa
      → apply this_edition identity c (RxRemove sci an) ≡ Ok (config_after c (RxRemove sci an))
  rx_removed sci an sa channel there = rw (channel, there) refl

-- ---- the stages

-- what is at another number of the channel stays
put_rx-other : {X : Type 0} (f : List ℕ → ℕ → X) (sci : List ℕ) (at number : ℕ) (x : X) → at ≢ number
    → put_at f sci (put (f sci) at x) sci number ≡ f sci number
put_rx-other f sci at number x differ = ap (λ g. g number) (put_at-here f sci (put (f sci) at x))
    ∙ put-other (f sci) at number x differ

pub before_is : (link : Link) (earlier : KeyPair) → link.before ≡ Some earlier → pair_before link ≡ Ok earlier
before_is link earlier is = rw is refl

module _ (identity : Identity) (link : Link) (end : End) (earlier : KeyPair) (old : Config) (sound : IsSound link)
    (has : HasKeys link.newest)
    (before : link.before ≡ Some earlier) (sent : Sends end earlier old) (received : Receives link end earlier old)
    (gone : IsGone link end link.newest old) (unspent : IsUnspent link end link.newest old) where
  abbrev peer : List ℕ
  peer = sci_of link (other_end end)

  abbrev new : KeyPair
  new = link.newest

  apart : new.an ≢ earlier.an
  apart = sound.numbers earlier before

  apart_back : earlier.an ≢ new.an
  apart_back same = apart (sym same)

  -- ---- after the first stage

  abbrev one : Config
  one = config_after old (receives link new end)

  abbrev new_rx : RxSa
  new_rx = record { key = octets_of_key (own_key new (other_end end)); offset = Zero }

  sends_one : Sends end earlier one
  sends_one = record { encoding = sent.encoding; tx = sent.tx }

  earlier_one : Receives link end earlier one
  earlier_one = record {
    channel = received.channel;
    rx = (received.rx.0, put_rx-other old.rx peer new.an earlier.an (Some new_rx) apart ∙ received.rx.1);
  }

  newest_one : Receives link end new one
  newest_one = record { channel = received.channel; rx = (Zero, put_rx-here old.rx peer new.an (Some new_rx)) }

  -- ---- after the second

  abbrev installed : Config
  installed = config_after one (sends new end)

  abbrev two : Config
  two = config_after installed (TxUse new.an)

  abbrev new_tx : TxSa
  new_tx = record { key = octets_of_key (own_key new end); protection = Confidentiality Zero }

  there : installed.tx new.an ≡ Some new_tx
  there = put-here old.tx new.an (Some new_tx)

  sends_two : Sends end new two
  sends_two = record { encoding = refl; tx = (Confidentiality Zero, there) }

  earlier_two : Receives link end earlier two
  earlier_two = record { channel = earlier_one.channel; rx = earlier_one.rx }

  newest_two : Receives link end new two
  newest_two = record { channel = newest_one.channel; rx = newest_one.rx }

  -- ---- after the third

  abbrev removed : Config
  removed = config_after two (TxRemove earlier.an)

  abbrev three : Config
  three = config_after removed (RxRemove peer earlier.an)

  sends_three : Sends end new three
  sends_three = record {
    encoding = refl;
    tx = (Confidentiality Zero, put-other two.tx earlier.an new.an None apart_back ∙ there);
  }

  newest_three : Receives link end new three
  unfolding newest_two newest_one
  newest_three = record {
    channel = received.channel;
    rx = (Zero, put_rx-other two.rx peer earlier.an new.an None apart_back ∙ newest_two.rx.1);
  }

  gone_three : IsGone link end earlier three
  gone_three = record { tx = put-here two.tx earlier.an None; rx = put_rx-here two.rx peer earlier.an None }

  pub rekeyed : Rekeyed identity link end earlier old
  rekeyed = (
    one,
    (
      receive_both link end,
      rw (before_is link earlier before) refl,
      (
        one,
        rx_installed identity old peer new.an (own_key new (other_end end)) received.channel gone.rx unspent.rx
            unspent.rx_room (has (other_end end)),
        refl,
      ),
    ),
    sends_one,
    earlier_one,
    newest_one,
    (
      two,
      (
        start_sending link end,
        rw (before_is link earlier before) refl,
        (
          installed,
          tx_installed identity one new.an (own_key new end) gone.tx unspent.tx unspent.tx_room (has end),
          (two, tx_used identity installed new.an new_tx there, refl),
        ),
      ),
      sends_two,
      earlier_two,
      newest_two,
      (
        three,
        (
          remove_earlier link end earlier,
          rw (before_is link earlier before) refl,
          (
            removed,
            tx_removed identity two earlier.an new.an _
                (put-other old.tx new.an earlier.an (Some new_tx) apart ∙ sent.tx.1) refl apart,
            (three, rx_removed identity removed peer earlier.an _ received.channel earlier_two.rx.1, refl),
          ),
        ),
        sends_three,
        newest_three,
        gone_three,
      ),
    ),
  )

pub rekeys : Rekeys
rekeys identity link end earlier old sound has before sent received gone unspent =
    rekeyed identity link end earlier old sound has before sent received gone unspent

-- ---- the first keys

differs : (a b : List ℕ) → a ≢ b → bytes_eq a b ≡ false
differs a b apart = elim (cases_Bool (bytes_eq a b)) [
  | inl same ↦ absurd (apart (same_octets a b same))
  | inr other ↦ other
]

foreign : (link : Link) (end : End) → link.left ≢ link.right → sci_of link (other_end end) ≢ sci_of link end
foreign link Left apart same = apart (sym same)
foreign link Right apart same = apart same

or_false : (b : Bool) → (b || false) ≡ b
or_false true = refl
or_false false = refl

module _ (identity : Identity) (link : Link) (end : End) (sound : IsSound link) (has : HasKeys link.newest)
    (own : identity.sci ≡ sci_of link end) where
  abbrev far : List ℕ
  far = sci_of link (other_end end)

  abbrev pair : KeyPair
  pair = link.newest

  abbrev first : Config
  first = config_after default (sends pair end)

  abbrev second : Config
  second = config_after first (TxUse pair.an)

  abbrev third : Config
  third = config_after second (RxAdd far)

  abbrev fourth : Config
  fourth = config_after third (receives link pair end)

  abbrev tx_sa : TxSa
  tx_sa = record { key = octets_of_key (own_key pair end); protection = Confidentiality Zero }

  abbrev rx_sa : RxSa
  rx_sa = record { key = octets_of_key (own_key pair (other_end end)); offset = Zero }

  sending : first.tx pair.an ≡ Some tx_sa
  sending = put-here default.tx pair.an (Some tx_sa)

  stranger : bytes_eq far identity.sci ≡ false
  stranger = rw own (differs far (sci_of link end) (foreign link end sound.ends))

  channel : has_channel third far ≡ true
  channel = or_false (bytes_eq far far) ∙ bytes_eq-itself far

  sends_it : Sends end pair fourth
  sends_it = record { encoding = refl; tx = (Confidentiality Zero, sending) }

  receives_it : Receives link end pair fourth
  receives_it = record { channel = channel; rx = (Zero, put_rx-here third.rx far pair.an (Some rx_sa)) }

  pub begun : Begun identity link end
  begun = (
    fourth,
    (
      first_keys link end,
      refl,
      (
        first,
        tx_installed identity default pair.an (own_key pair end) refl refl (omega arith) (has end),
        (
          second,
          tx_used identity first pair.an tx_sa sending,
          (
            third,
            rx_added identity second far stranger refl (omega arith),
            (
              fourth,
              rx_installed identity third far pair.an (own_key pair (other_end end)) channel refl refl
                  (omega arith) (has (other_end end)),
              refl,
            ),
          ),
        ),
      ),
    ),
    sends_it,
    receives_it,
  )

pub begins : Begins
begins identity link end sound has own = begun identity link end sound has own

-- ---- both ends

pub meets : Meets
meets link Left pair sender receiver sent received = (
  pair.an,
  record { key = octets_of_key (own_key pair Left); protection = sent.tx.0 },
  record { key = octets_of_key (own_key pair Left); offset = received.rx.0 },
  sent.encoding,
  sent.tx.1,
  received.channel,
  received.rx.1,
  refl,
)
meets link Right pair sender receiver sent received = (
  pair.an,
  record { key = octets_of_key (own_key pair Right); protection = sent.tx.0 },
  record { key = octets_of_key (own_key pair Right); offset = received.rx.0 },
  sent.encoding,
  sent.tx.1,
  received.channel,
  received.rx.1,
  refl,
)

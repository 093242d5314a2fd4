-- What the channels show, after one of them has changed, came or went.
use Rattle.std.proofs.Common.{◌≡◌, ◌∙◌, ◌<◌, ◌∷◌, ◌++◌, ℕ, zero, suc, true, false, not, List, [], length, map, take}
use Rattle.std.proofs.Common.{drop, set, get_or, filter, Option, Some, None, refl, ap, sym, subst}
use Rattle.std.specs.Prelude.{position, slice_set}
use Rattle.std.specs.List.{insert, list_any}
use Rattle.std.specs.Option.{option_and_then, option_map}
use Rattle.std.specs.Str.{bytes_eq}
use Rattle.std.proofs.Math.Path.{fun_ext}
use Rattle.macs_config.specs.Config.{is_ascending, put_among}
use Rattle.macs_config.specs.Places.{IsPlace}
use Rattle.macs_config.specs.Tables.{put, put_at}
use Rattle.macs_config.specs.declared.association.RxSa.{RxSa}
use Rattle.macs_config.specs.declared.command.Replay.{Replay}
use Rattle.macs_config.specs.declared.command.Validate.{Validate}
use Rattle.macs_config.specs.declared.command.Validate.TheVariants.{Strict, Check}
use Rattle.macs_config.proofs.Keyed.{found-none, found-place, has_sci, is_other, lookup-filter, lookup-insert}
use Rattle.macs_config.proofs.Keyed.{lookup-none, lookup-place, lookup-set, place-among, place-there, scis-filter}
use Rattle.macs_config.proofs.Keyed.{scis-insert, scis-set}
use Rattle.macs_config.proofs.Tables.{none_at, put-placed, put_at-read, put_at-same}
use Rattle.macs_frame.specs.Tag.{name_of, tag_of}
use Rattle.macs_frame.specs.declared.tag.SecTag.{SecTag}
use Rattle.macs_frame.specs.declared.tag.TagFault.{TagFault}
use Rattle.macs_frame.specs.declared.tag.TagFault.TheVariants.{Runt as IsRunt, Oversize as IsOversize}
use Rattle.macs_frame.specs.declared.tag.TagFault.TheVariants.{NoTag as HasNoTag, BadTag as HasBadTag}
use Rattle.macs_frame.specs.declared.tag.TagFault.TheVariants.{ForKay as IsForKay}
use Rattle.macs_rxsc.specs.Value.{IsSoundRx, ceilings_among, ceilings_in, channel_at, counters_among, counters_in}
use Rattle.macs_rxsc.specs.Value.{numbers_in, packet_numbers, sa_of, sas_in, scis_of, rx_side_in, association_under}
use Rattle.macs_rxsc.specs.Value.{channel_under, association_in}
use Rattle.macs_rxsc.specs.Receive.{Numbers, IsOutcome, RxSide, Tag as TagStep, put_numbers, sci_named}
use Rattle.macs_rxsc.specs.Receive.{standing_channel, verdict_at, numbers_under_window}
use Rattle.macs_rxsc.specs.Counting.{channel_counters_after, counters_after_verdict_at, no_channel_counts}
use Rattle.macs_rxsc.specs.declared.association.Association.{Association}
use Rattle.macs_rxsc.specs.declared.channel.Channel.{Channel}
use Rattle.macs_rxsc.specs.declared.counters.ChannelCounters.{ChannelCounters}
use Rattle.macs_rxsc.specs.declared.counters.RxCounters.{RxCounters}
use Rattle.macs_rxsc.specs.declared.verdict.Verdict.{Verdict}
use Rattle.macs_rxsc.proofs.Order.{AllOrdered}
use Rattle.macs_rxsc.proofs.Places.{channel_at-slid, channel_lookup, sci_of, scis_of-slid}

-- where no channel was found
pub found_none : (items ws : List Channel) (sci : List ℕ) → ws ≡ items → None ≡ position (has_sci sci_of sci) ws
    → (channel_at items sci ≡ None) × (list_any (λ other. bytes_eq other sci) (scis_of items) ≡ false)
found_none items ws sci is none =
    let absent = found-none sci_of items ws sci is none in
    (lookup-none channel_lookup items sci absent, absent)

-- ---- one channel has changed

module _ (items : List Channel) (place : ℕ) (old new : Channel) (sci : List ℕ) (p : IsPlace (scis_of items) sci place)
    (is : old ≡ get_or items place old) (same : new.sci ≡ old.sci) where
  pub there : old.sci ≡ sci
  there = ap sci_of is ∙ place-there sci_of items sci place old p

  pub at_old : channel_at items sci ≡ Some old
  at_old = lookup-place channel_lookup items sci place old p ∙ ap Some (sym is)

  each : (s : List ℕ) → channel_at (set items place new) s ≡ put_at (channel_at items) sci (Some new) s
  each = lookup-set channel_lookup items place new sci p (same ∙ there)

  scis : scis_of (set items place new) ≡ scis_of items
  scis = scis-set sci_of items place new sci p (same ∙ there)

  pub shown-changed : (validate : Validate) (replay : Replay) (f : ℕ → Option RxSa) (g : ℕ → Option Numbers)
      → sas_in (Some new) ≡ f → numbers_in (Some new) ≡ g
      → rx_side_in validate replay (set items place new) ≡ record (rx_side_in validate replay items) {
        rx = put_at (rx_side_in validate replay items).rx sci f;
        numbers =
            put_at (rx_side_in validate replay items).numbers sci g;
      }
  shown-changed validate replay f g sas numbers =
      let rx_is : (λ (s : List ℕ). sas_in (channel_at (set items place new) s))
      ≡ put_at (λ (s : List ℕ). sas_in (channel_at items s)) sci f =
      put_at-read sas_in _ _ sci (Some new) each ∙ ap (put_at (λ (s : List ℕ). sas_in (channel_at items s)) sci) sas in
      let numbers_are : (λ (s : List ℕ). numbers_in (channel_at (set items place new) s))
      ≡ put_at (λ (s : List ℕ). numbers_in (channel_at items s)) sci g =
      put_at-read numbers_in _ _ sci (Some new) each
      ∙ ap (put_at (λ (s : List ℕ). numbers_in (channel_at items s)) sci) numbers in
      λ i. record { validate = validate; replay = replay; channels = scis i; rx = rx_is i; numbers = numbers_are i }

  pub ceilings-changed : (h : ℕ → Option ℕ) → ceilings_in (Some new) ≡ h
      → ceilings_among (set items place new) ≡ put_at (ceilings_among items) sci h
  ceilings-changed h is = put_at-read ceilings_in _ _ sci (Some new) each ∙ ap (put_at (ceilings_among items) sci) is

  pub counters-changed : (h : Option ChannelCounters) → Some new.counters ≡ h
      → counters_among (set items place new) ≡ put_at (counters_among items) sci h
  counters-changed h is = put_at-read counters_in _ _ sci (Some new) each ∙ ap (put_at (counters_among items) sci) is

  -- what the old channel said, put where it was
  pub sas-old : put_at (λ (s : List ℕ). sas_in (channel_at items s)) sci (sas_in (Some old))
      ≡ (λ (s : List ℕ). sas_in (channel_at items s))
  sas-old = put_at-same (λ (s : List ℕ). sas_in (channel_at items s)) sci (sas_in (Some old)) (ap sas_in at_old)

  pub numbers-old : put_at (λ (s : List ℕ). numbers_in (channel_at items s)) sci (numbers_in (Some old))
      ≡ (λ (s : List ℕ). numbers_in (channel_at items s))
  numbers-old =
      put_at-same (λ (s : List ℕ). numbers_in (channel_at items s)) sci (numbers_in (Some old)) (ap numbers_in at_old)

  pub ceilings-kept : ceilings_in (Some new) ≡ ceilings_in (Some old)
      → ceilings_among (set items place new) ≡ ceilings_among items
  ceilings-kept is = ceilings-changed _ is
      ∙ put_at-same (ceilings_among items) sci (ceilings_in (Some old)) (ap ceilings_in at_old)

  pub counters-kept : new.counters ≡ old.counters → counters_among (set items place new) ≡ counters_among items
  counters-kept is = counters-changed _ (ap Some is)
      ∙ put_at-same (counters_among items) sci (Some old.counters) (ap counters_in at_old)

  pub shown-kept : (validate : Validate) (replay : Replay) → sas_in (Some new) ≡ sas_in (Some old)
      → numbers_in (Some new) ≡ numbers_in (Some old)
      → rx_side_in validate replay (set items place new) ≡ rx_side_in validate replay items
  shown-kept validate replay sas numbers =
      shown-changed validate replay _ _ sas numbers
      ∙ (λ i. record {
        validate = validate;
        replay = replay;
        channels = scis_of items;
        rx = sas-old i;
        numbers =
            numbers-old i;
      })

  -- only the numbers changed
  pub shown-numbers : (validate : Validate) (replay : Replay) → sas_in (Some new) ≡ sas_in (Some old)
      → rx_side_in validate replay (set items place new) ≡ record (rx_side_in validate replay items) {
        numbers =
            (rx_side_in validate replay (set items place new)).numbers;
      }
  shown-numbers validate replay sas =
      let rx_is : (λ (s : List ℕ). sas_in (channel_at (set items place new) s))
      ≡ (λ (s : List ℕ). sas_in (channel_at items s)) =
      put_at-read sas_in _ _ sci (Some new) each ∙ ap (put_at (λ (s : List ℕ). sas_in (channel_at items s)) sci) sas
      ∙ sas-old in
      λ i. record {
        validate = validate;
        replay = replay;
        channels = scis i;
        rx = rx_is i;
        numbers =
            (rx_side_in validate replay (set items place new)).numbers;
      }

  -- the numbers that the channel has now
  pub numbers-changed : put_at (λ (s : List ℕ). numbers_in (channel_at items s)) old.sci (numbers_in (Some new))
      ≡ (λ (s : List ℕ). numbers_in (channel_at (set items place new) s))
  numbers-changed =
      ap (λ (s : List ℕ). put_at (λ (t : List ℕ). numbers_in (channel_at items t)) s (numbers_in (Some new))) there
      ∙ sym (put_at-read numbers_in _ _ sci (Some new) each)

  -- one more is counted for the channel
  pub counters-counted : (tag : SecTag) (verdict : Verdict) (given : List ℕ)
      → new.counters ≡ channel_counters_after tag verdict given old.counters
      → counters_among (set items place new)
      ≡ counters_after_verdict_at (Some sci) tag verdict given (counters_among items)
  counters-counted tag verdict given is =
      counters-changed _ (ap Some is)
      ∙ ap (λ (o : Option Channel). put_at (counters_among items) sci
      (option_map (channel_counters_after tag verdict given) (counters_in o))) (sym at_old)

-- ---- a new channel

abbrev pub fresh : List ℕ → Channel
fresh sci = record { sci = sci; associations = None ∷ None ∷ None ∷ None ∷ []; counters = no_channel_counts }

module _ (items : List Channel) (place : ℕ) (sci : List ℕ)
    (free : list_any (λ other. bytes_eq other sci) (scis_of items) ≡ false) where
  inserted : (s : List ℕ)
      → channel_at (insert items place (fresh sci)) s ≡ put_at (channel_at items) sci (Some (fresh sci)) s
  inserted = lookup-insert channel_lookup items place (fresh sci) free

  none_yet : channel_at items sci ≡ None
  none_yet = lookup-none channel_lookup items sci free

  -- what is read of associations is as before
  unread : {X : Type 0} (f : Association → X)
      → ◌≡◌ {A = ℕ → Option X} (λ an. option_map f (get_or (fresh sci).associations an None)) (λ an. None)
  unread f = fun_ext (λ an. ap (option_map f) (none_at an))

  sas-added : ◌≡◌ {A = List ℕ → ℕ → Option RxSa} (λ s. sas_in (channel_at (insert items place (fresh sci)) s))
      (λ s. sas_in (channel_at items s))
  sas-added =
      put_at-read sas_in _ _ sci (Some (fresh sci)) inserted
      ∙ ap (put_at (λ (s : List ℕ). sas_in (channel_at items s)) sci) (unread sa_of)
      ∙ put_at-same (λ (s : List ℕ). sas_in (channel_at items s)) sci _ (ap sas_in none_yet)

  numbers-added : ◌≡◌ {A = List ℕ → ℕ → Option Numbers}
      (λ s. numbers_in (channel_at (insert items place (fresh sci)) s)) (λ s. numbers_in (channel_at items s))
  numbers-added =
      put_at-read numbers_in _ _ sci (Some (fresh sci)) inserted
      ∙ ap (put_at (λ (s : List ℕ). numbers_in (channel_at items s)) sci) (unread packet_numbers)
      ∙ put_at-same (λ (s : List ℕ). numbers_in (channel_at items s)) sci _ (ap numbers_in none_yet)

  pub ceilings-added : ceilings_among (insert items place (fresh sci)) ≡ ceilings_among items
  ceilings-added =
      put_at-read ceilings_in _ _ sci (Some (fresh sci)) inserted
      ∙ ap (put_at (ceilings_among items) sci) (unread (λ (a : Association). a.ceiling))
      ∙ put_at-same (ceilings_among items) sci _ (ap ceilings_in none_yet)

  pub counters-added : counters_among (insert items place (fresh sci))
      ≡ put_at (counters_among items) sci (Some no_channel_counts)
  counters-added = put_at-read counters_in _ _ sci (Some (fresh sci)) inserted

  pub shown-added : (validate : Validate) (replay : Replay)
      → put_among sci (scis_of items) ≡ take place (scis_of items) ++ sci ∷ drop place (scis_of items)
      → rx_side_in validate replay (insert items place (fresh sci))
      ≡ record (rx_side_in validate replay items) { channels = put_among sci (scis_of items) }
  shown-added validate replay between =
      let scis : scis_of (insert items place (fresh sci)) ≡ put_among sci (scis_of items) =
      scis-insert sci_of items place (fresh sci) ∙ sym between in
      λ i. record {
        validate = validate;
        replay = replay;
        channels = scis i;
        rx = sas-added i;
        numbers =
            numbers-added i;
      }

-- ---- a channel goes

module _ (items : List Channel) (sci : List ℕ) where
  pub shown-gone : (validate : Validate) (replay : Replay)
      → rx_side_in validate replay (filter (is_other sci_of sci) items) ≡ record (rx_side_in validate replay items) {
        channels = filter (λ other. not (bytes_eq other sci)) (scis_of items);
        rx = put_at (rx_side_in validate replay items).rx sci (λ an. None);
        numbers = put_at (rx_side_in validate replay items).numbers sci (λ an. None);
      }
  shown-gone validate replay =
      let rx_is : (λ (s : List ℕ). sas_in (channel_at (filter (is_other sci_of sci) items) s))
      ≡ put_at (λ (s : List ℕ). sas_in (channel_at items s)) sci (λ an. None) =
      put_at-read sas_in _ _ sci None (lookup-filter channel_lookup items sci) in
      let numbers_are : (λ (s : List ℕ). numbers_in (channel_at (filter (is_other sci_of sci) items) s))
      ≡ put_at (λ (s : List ℕ). numbers_in (channel_at items s)) sci (λ an. None) =
      put_at-read numbers_in _ _ sci None (lookup-filter channel_lookup items sci) in
      λ i. record {
        validate = validate;
        replay = replay;
        channels = scis-filter sci_of items sci i;
        rx = rx_is i;
        numbers = numbers_are i;
      }

  pub ceilings-gone : ceilings_among (filter (is_other sci_of sci) items)
      ≡ put_at (ceilings_among items) sci (λ an. None)
  ceilings-gone = put_at-read ceilings_in _ _ sci None (lookup-filter channel_lookup items sci)

  pub counters-gone : counters_among (filter (is_other sci_of sci) items) ≡ put_at (counters_among items) sci None
  counters-gone = put_at-read counters_in _ _ sci None (lookup-filter channel_lookup items sci)

-- ---- the channel that a frame names

-- the place that was found, over the channels as they are kept and the name in the frame's tag
pub named_at : (items ws : List Channel) (frame : List ℕ) (tag : SecTag) (found : Option ℕ) → ws ≡ items
    → tag ≡ tag_of frame
    → found ≡ option_and_then (λ (s : List ℕ). position (has_sci sci_of s) ws) (sci_named (scis_of ws) frame tag.name)
    → found ≡ option_and_then (λ (s : List ℕ). position (has_sci sci_of s) items)
    (sci_named (scis_of items) frame (name_of frame))
named_at items ws frame tag found same is found_is =
    found_is
    ∙ ap (λ (t : SecTag).
    option_and_then (λ (s : List ℕ). position (has_sci sci_of s) ws) (sci_named (scis_of ws) frame t.name)) is
    ∙ ap (λ (xs : List Channel). option_and_then (λ (s : List ℕ). position (has_sci sci_of s) xs)
    (sci_named (scis_of xs) frame (name_of frame))) same

pub named_some : (items : List Channel) (place : ℕ) (named : Option (List ℕ))
    → ◌≡◌ {A = Option ℕ} (Some place) (option_and_then (λ (s : List ℕ). position (has_sci sci_of s) items) named)
    → (sci : List ℕ) × (named ≡ Some sci) × IsPlace (scis_of items) sci place
    × (option_and_then (standing_channel (scis_of items)) named ≡ Some sci)
named_some items place None found = absurd (cc)
named_some items place (Some sci) found =
    let p = found-place sci_of items items sci refl place found in
    (sci, refl, p, rw (place-among (scis_of items) sci place p) refl)

pub named_none : (items : List Channel) (named : Option (List ℕ))
    → ◌≡◌ {A = Option ℕ} None (option_and_then (λ (s : List ℕ). position (has_sci sci_of s) items) named)
    → option_and_then (standing_channel (scis_of items)) named ≡ None
named_none items None none = refl
named_none items (Some sci) none = rw (found-none sci_of items items sci refl none) refl

-- ---- what is not counted for channels

same_in : (o : Option ChannelCounters) (f : ChannelCounters → ChannelCounters) → ((c : ChannelCounters) → f c ≡ c)
    → o ≡ option_map f o
same_in None f same = refl
same_in (Some c) f same = ap Some (sym (same c))

pub uncounted : (channel : Option (List ℕ)) (tag : SecTag) (verdict : Verdict) (given : List ℕ)
    (table : List ℕ → Option ChannelCounters)
    → ((c : ChannelCounters) → channel_counters_after tag verdict given c ≡ c)
    → counters_after_verdict_at channel tag verdict given table ≡ table
uncounted None tag verdict given table same = refl
uncounted (Some sci) tag verdict given table same =
    put_at-same table sci _ (same_in (table sci) (channel_counters_after tag verdict given) same)

pub tag_uncounted : (side : RxSide) (frame : List ℕ) (fault : TagFault) (validate : Validate) → side.validate ≡ validate
    → (tag : SecTag) (given : List ℕ) (c : ChannelCounters)
    → channel_counters_after tag (verdict_at side frame (TagStep fault)) given c ≡ c
tag_uncounted side frame IsRunt validate is tag given c = refl
tag_uncounted side frame IsOversize validate is tag given c = refl
tag_uncounted side frame HasNoTag Strict is tag given c = rw is refl
tag_uncounted side frame HasNoTag Check is tag given c = rw is refl
tag_uncounted side frame HasBadTag validate is tag given c = refl
tag_uncounted side frame IsForKay validate is tag given c = refl

-- ---- the window changes

windowed_read : (window : ℕ) (a : Option Association) → option_map packet_numbers
    (option_map (association_under window) a) ≡ option_map (numbers_under_window window) (option_map packet_numbers a)
windowed_read window None = refl
windowed_read window (Some a) = refl

sa_read : (window : ℕ) (a : Option Association)
    → option_map sa_of (option_map (association_under window) a) ≡ option_map sa_of a
sa_read window None = refl
sa_read window (Some a) = refl

ceiling_read : (window : ℕ) (a : Option Association) → option_map (λ (x : Association). x.ceiling)
    (option_map (association_under window) a) ≡ option_map (λ (x : Association). x.ceiling) a
ceiling_read window None = refl
ceiling_read window (Some a) = refl

slid_at : (window : ℕ) (xs : List (Option Association)) (an : ℕ) → get_or
    (map (option_map (association_under window)) xs) an None ≡ option_map (association_under window) (get_or xs an None)
slid_at window [] an = refl
slid_at window (x ∷ xs) zero = refl
slid_at window (x ∷ xs) (suc an) = slid_at window xs an

slid_in : (window : ℕ) (o : Option Channel) (an : ℕ) → association_in (option_map (channel_under window) o) an
    ≡ option_map (association_under window) (association_in o an)
slid_in window None an = refl
slid_in window (Some c) an = slid_at window c.associations an

module _ (items : List Channel) (window : ℕ) where
  slid_there : (s : List ℕ) (an : ℕ) → association_in (channel_at (map (channel_under window) items) s) an
      ≡ option_map (association_under window) (association_in (channel_at items s) an)
  slid_there s an = ap (λ (o : Option Channel). association_in o an) (channel_at-slid items window s)
      ∙ slid_in window (channel_at items s) an

  pub shown-slid : (validate : Validate) (replay : Replay) (old : Validate) (before : Replay)
      → rx_side_in validate replay (map (channel_under window) items) ≡ record (rx_side_in old before items) {
        validate = validate;
        replay = replay;
        numbers = λ sci an. option_map (numbers_under_window window) ((rx_side_in old before items).numbers sci an);
      }
  shown-slid validate replay old before =
      let rx_is : (λ (s : List ℕ). sas_in (channel_at (map (channel_under window) items) s))
      ≡ (λ (s : List ℕ). sas_in (channel_at items s)) =
      fun_ext (λ s. fun_ext
      (λ an. ap (option_map sa_of) (slid_there s an) ∙ sa_read window (association_in (channel_at items s) an))) in
      let numbers_are : (λ (s : List ℕ). numbers_in (channel_at (map (channel_under window) items) s))
      ≡ (λ (s : List ℕ) (an : ℕ). option_map (numbers_under_window window) (numbers_in (channel_at items s) an)) =
      fun_ext (λ s. fun_ext (λ an. ap (option_map packet_numbers) (slid_there s an)
      ∙ windowed_read window (association_in (channel_at items s) an))) in
      λ i. record {
        validate = validate;
        replay = replay;
        channels = scis_of-slid items window i;
        rx = rx_is i;
        numbers = numbers_are i;
      }

  pub ceilings-slid : ceilings_among (map (channel_under window) items) ≡ ceilings_among items
  ceilings-slid = fun_ext (λ s. fun_ext (λ an. ap (option_map (λ (x : Association). x.ceiling)) (slid_there s an)
      ∙ ceiling_read window (association_in (channel_at items s) an)))

  counted_in : (o : Option Channel) → counters_in (option_map (channel_under window) o) ≡ counters_in o
  counted_in None = refl
  counted_in (Some c) = refl

  pub counters-slid : counters_among (map (channel_under window) items) ≡ counters_among items
  counters-slid = fun_ext (λ s. ap counters_in (channel_at-slid items window s) ∙ counted_in (channel_at items s))

-- ---- what holds of all that is kept

-- channels that show this are in order where it is
pub kept_as : (validate : Validate) (replay : Replay) (items : List Channel) (counters : RxCounters) (side : RxSide)
    (ceilings : List ℕ → ℕ → Option ℕ)
    → rx_side_in validate replay items ≡ side → ceilings_among items ≡ ceilings → is_ascending side.channels ≡ true
    → AllOrdered side ceilings
    → IsSoundRx (record { validate = validate; replay = replay; channels = items; counters = counters })
kept_as validate replay items counters side ceilings is_side are_ceilings ascending ordered = record {
  ascending = ap (λ (s : RxSide). is_ascending s.channels) is_side ∙ ascending;
  ordered =
      subst (λ (s : RxSide). AllOrdered s (ceilings_among items)) (sym is_side)
      (subst (λ (c : List ℕ → ℕ → Option ℕ). AllOrdered side c) (sym are_ceilings) ordered);
}

-- ---- one association of a channel has changed

-- the channel that its association has moved the numbers of
pub decided_some : (side : RxSide) (ceilings : List ℕ → ℕ → Option ℕ) (frame : List ℕ) (channel : Channel) (i an : ℕ)
    (new : Association) (verdict : Verdict) (given : List ℕ)
    → i ≡ an → i < length channel.associations → side.numbers channel.sci ≡ numbers_in (Some channel)
    → IsOutcome side ceilings frame (record {
      verdict = verdict;
      given = given;
      numbers =
          put_numbers side.numbers channel.sci an (Some (packet_numbers new));
    })
    → IsOutcome side ceilings frame (record {
      verdict = verdict;
      given = given;
      numbers = put_at side.numbers channel.sci
          (numbers_in (Some (record channel { associations = slice_set channel.associations i (Some new) })));
    })
decided_some side ceilings frame channel i an new verdict given same within are received =
    let changed : put (side.numbers channel.sci) an (Some (packet_numbers new))
    ≡ numbers_in (Some (record channel { associations = slice_set channel.associations i (Some new) })) =
    ap (λ (f : ℕ → Option Numbers). put f an (Some (packet_numbers new))) are
    ∙ ap (λ (k : ℕ). put (numbers_in (Some channel)) k (Some (packet_numbers new))) (sym same)
    ∙ sym (put-placed packet_numbers channel.associations i new within) in
    subst (λ (f : ℕ → Option Numbers). IsOutcome side ceilings frame
    (record { verdict = verdict; given = given; numbers = put_at side.numbers channel.sci f })) changed received

-- the channel none of whose associations has changed
pub decided_same : (side : RxSide) (channel : Channel) (f : ℕ → Option Numbers) → f ≡ numbers_in (Some channel)
    → side.numbers channel.sci ≡ numbers_in (Some channel)
    → put_at side.numbers channel.sci f ≡ side.numbers
decided_same side channel f same are = put_at-same side.numbers channel.sci f (are ∙ sym same)

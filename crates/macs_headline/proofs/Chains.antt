-- Deeds, one after another, are lives.
use Rattle.std.proofs.Common.{◌≡◌, ◌≤◌, ap, ◌++◌, ◌∙◌, ◌⊎◌, inl, inr, ℕ, List, [], ◌∷◌, map, Option}
use Rattle.std.proofs.Common.{Some, None, refl, sym, subst, arith}
use Rattle.macs_config.specs.Config.{Edition, this_edition}
use Rattle.macs_disk.specs.Disk.{Disk, IsHonest, MayLeave, now}
use Rattle.macs_disk.specs.Fuses.{fused_disk}
use Rattle.macs_disk.specs.States.{DiskState, Image, IsImage, IsSound}
use Rattle.std.specs.Prelude.{Contains}
use Rattle.std.proofs.lemmas.List.Elements.{Contains-append_right, Contains-append_cases, Contains-append_left}
use Rattle.macs_endpoint.specs.Calls.{IsCall}
use Rattle.macs_endpoint.specs.Lives.{Lives, Transition, exchange_of}
use Rattle.macs_endpoint.specs.State.{Call}
use Rattle.macs_endpoint.specs.Step.{Exchange}
use Rattle.macs_endpoint.specs.Value.{EndpointValue, IsSoundEndpoint}
use Rattle.macs_headline.specs.Answered.{exchanges_in, exchanges_of_lives}
use Rattle.macs_headline.specs.Binding.{CallsAreDeeds, ChainsAnswer, DeedsAreHistories}
use Rattle.macs_headline.specs.Binding.{FittingHaveHistories, HasHistory}
use Rattle.macs_headline.specs.Binding.{NewDeedsAreHistories, NewDisksHaveHistories, PassedOnHaveHistories}
use Rattle.macs_headline.specs.Binding.{SettledHaveHistories}
use Rattle.macs_headline.specs.Deeds.{Chain, Deed, Does, Formatting, FormattingCut, IsPassedOn, Link, Living}
use Rattle.macs_headline.specs.Deeds.{OpeningCut, PassingOn, Refusing, lives_of_deed, lives_of_links}
use Rattle.macs_headline.specs.History.{Blank, FitsPast, IsHistory, LeadOn, Life, Past}
use Rattle.macs_headline.proofs.Formats.{format-answered, format-cut}
use Rattle.macs_headline.proofs.Living.{life-cut, life-ended, opening-cut, opening-refused}
use Rattle.macs_headline.proofs.Lists.{contains-cases}
use Rattle.macs_headline.proofs.Lists.{contains-map, contains-none}
use Rattle.macs_headline.proofs.Losses.{IsCovered, LeadTo, lead-nowhere, one-image}

-- lives, and then more
pub lead-on : (sectors : ℕ) (lives more : List Life) (old mid new : Past) → LeadOn sectors old lives mid
    → LeadOn sectors mid more new → LeadOn sectors old (lives ++ more) new
lead-on sectors [] more old mid new first rest = subst (λ (p : Past). LeadOn sectors p more new) first rest
lead-on sectors (life ∷ lives) more old mid new (next, leads, first) rest =
    (next, leads, lead-on sectors lives more next mid new first rest)

-- ---- disks that have a history

-- a disk that is new
pub new-disks : NewDisksHaveHistories
new-disks edition disk new = record {
  honest = new.honest;
  past = Blank [];
  history = refl;
  images =
      λ image left. inl (new.large, new.closed image left);
}

-- a disk of which each image fits
pub fitting-disks : FittingHaveHistories
fitting-disks edition disk lives past honest history images =
    (record { honest = honest; past = past; history = history; images = images }, refl)

-- a disk on which nothing is pending
pub settled-disks : SettledHaveHistories
settled-disks edition disk lives past image honest settled history fits = record {
  honest = honest;
  past = past;
  history = history;
  images = λ other left.
      let same : other ≡ image = one-image image other (subst (λ (s : DiskState). IsImage s other) settled left) in
      subst (FitsPast edition disk.sectors past) (sym same) fits;
}

-- a disk of that size that may leave no more
same_history : (edition : Edition) (old new : Disk) (lives : List Life) → HasHistory edition old lives → IsHonest new
    → new.sectors ≡ old.sectors
    → ((image : Image) → MayLeave new image → MayLeave old image) → HasHistory edition new lives
same_history edition old new lives h honest size images = record {
  honest = honest;
  past = h.past;
  history = subst (λ (n : ℕ). IsHistory n lives h.past) (sym size) h.history;
  images =
      λ image left. subst (λ (n : ℕ). FitsPast edition n h.past image) (sym size) (h.images image (images image left));
}

-- what could be left at the moment at which a medium was passed on, where that moment is now
pub left-now : (old new : Disk) → IsPassedOn old old.clock new → (image : Image) → MayLeave new image
    → MayLeave old image
left-now old new passed image left =
    let from = passed.later in
    let to = passed.within in
    let at_now : passed.moment ≡ old.clock = omega (arith, from, to) in
    subst (λ (k : ℕ). IsImage (old.past k) image) at_now (passed.images image left)

-- the disk to which the medium is passed on
pub passed-on : PassedOnHaveHistories
passed-on edition old new lives h passed =
    same_history edition old new lives h (passed.honest ∙ h.honest) passed.sectors (left-now old new passed)

-- a fuse shows what the disk under it is now
pub fuse-now : (disk : Disk) (at missed added : ℕ) → at ≤ disk.clock → now (fused_disk disk at missed added) ≡ now disk
fuse-now disk at missed added before = ap disk.past (omega (arith, before))

-- its past covers it
pub history-covers : (disk : Disk) (lives : List Life) (h : HasHistory this_edition disk lives)
    → IsCovered disk.sectors h.past disk
history-covers disk lives h = record { honest = h.honest; size = refl; images = h.images }

-- ---- deeds

module _ {D : Type 0} (disk_of : D → Disk) (sound : (it : D) → IsHonest (disk_of it) → IsSound (now (disk_of it))) where
  module _ (sectors : ℕ) where
    -- one deed
    by_deed : (past : Past) (old : D) (deed : Deed D) (new : D) → IsCovered sectors past (disk_of old)
        → Does disk_of old deed new
        → LeadTo sectors past (lives_of_deed (now (disk_of old)).seen deed) (disk_of new)
    by_deed past old (Formatting identity result) new covered format =
        format-answered disk_of sound sectors old new identity past result covered format
    by_deed past old (FormattingCut identity) new covered (result, ran, format, passed) =
        format-cut disk_of sound sectors old ran identity result format past new covered passed
    by_deed past old (Refusing fault) new covered opening =
        opening-refused disk_of sound sectors past old covered new fault opening
    by_deed past old OpeningCut new covered (result, opening, passed) =
        opening-cut disk_of sound sectors past old covered result new opening passed
    by_deed past old (Living first turns last None) new covered (lived, same) =
        life-ended disk_of sound sectors past old first turns last covered lived new same
    by_deed past old (Living first turns last (Some call)) new covered (lived, kept, reply, after, is, passed) =
        life-cut disk_of sound sectors past old first turns last covered lived kept call reply after is new passed
    by_deed past old PassingOn new covered passed =
        lead-nowhere sectors past (disk_of new) (record {
          honest = passed.honest ∙ covered.honest;
          size = passed.sectors ∙ covered.size;
          images = λ image left. covered.images image (left-now (disk_of old) (disk_of new) passed image left);
        })

    -- all of them
    pub by-links : (past : Past) (old new : D) (links : List (Link D)) → IsCovered sectors past (disk_of old)
        → Chain disk_of old links new
        → LeadTo sectors past (lives_of_links disk_of old links) (disk_of new)
    by-links past old new [] covered same = subst (λ (d : D). LeadTo sectors past [] (disk_of d)) (sym same)
        (lead-nowhere sectors past (disk_of old) covered)
    by-links past old new (link ∷ links) covered (is, rest) =
        let first = by_deed past old link.deed link.after covered is in
        let more = by-links first.later link.after new links first.covered rest in
        record {
          later = more.later;
          lead = lead-on sectors (lives_of_deed (now (disk_of old)).seen link.deed)
              (lives_of_links disk_of link.after links) past first.later more.later first.lead more.lead;
          covered = more.covered;
        }

  -- the history of a disk goes on with them
  pub deeds-are-histories : DeedsAreHistories disk_of
  deeds-are-histories old new before links h chain =
      let sectors = (disk_of old).sectors in
      let more = lives_of_links disk_of old links in
      let leads = by-links sectors h.past old new links (history-covers (disk_of old) before h) chain in
      record {
        honest = leads.covered.honest;
        past = leads.later;
        history = subst (λ (n : ℕ). IsHistory n (before ++ more) leads.later) (sym leads.covered.size)
            (lead-on sectors before more (Blank []) h.past leads.later h.history leads.lead);
        images = λ image left. subst (λ (n : ℕ). FitsPast this_edition n leads.later image) (sym leads.covered.size)
            (leads.covered.images image left);
      }

  pub new-deeds-are-histories : NewDeedsAreHistories disk_of
  new-deeds-are-histories old new links is_new chain =
      deeds-are-histories old new [] links (new-disks this_edition (disk_of old) is_new) chain

-- ---- what makes a deed

-- one call more, and one deed more
lives_one_more : {D : Type 0} (disk_of : D → Disk) (turns : List (Transition D)) (first mid : EndpointValue D)
    (turn : Transition D) → Lives disk_of first turns mid
    → IsSoundEndpoint mid → IsCall disk_of mid turn.call turn.reply turn.after
    → Lives disk_of first (turns ++ turn ∷ []) turn.after
lives_one_more {D} disk_of [] first mid turn same kept call = (
  subst IsSoundEndpoint same kept,
  subst (λ (e : EndpointValue D). IsCall disk_of e turn.call turn.reply turn.after) same call,
  refl,
)
lives_one_more disk_of (next ∷ turns) first mid turn (sound, call, rest) kept last =
    (sound, call, lives_one_more disk_of turns next.after mid turn rest kept last)

chain_one_more : {D : Type 0} (disk_of : D → Disk) (links : List (Link D)) (old mid : D) (link : Link D)
    → Chain disk_of old links mid
    → Does disk_of mid link.deed link.after → Chain disk_of old (links ++ link ∷ []) link.after
chain_one_more {D} disk_of [] old mid link same does =
    (subst (λ (d : D). Does disk_of d link.deed link.after) same does, refl)
chain_one_more disk_of (next ∷ links) old mid link (is, rest) does =
    (is, chain_one_more disk_of links next.after mid link rest does)

pub calls-are-deeds : {D : Type 0} (disk_of : D → Disk) → CallsAreDeeds disk_of
calls-are-deeds disk_of = record {
  formatted = λ old new identity result format. format;
  format_cut = λ old ran new identity result format passed. (result, ran, format, passed);
  refused = λ old refused opening. opening;
  opening_cut = λ old new result opening passed. (result, opening, passed);
  after_opened = λ first. refl;
  after_refused = λ refused. refl;
  answered = λ turn. refl;
  ended = λ old first last turns lived. (lived, refl);
  call_cut = λ old new first last after turns call reply lived kept is passed. (lived, kept, reply, after, is, passed);
  passed_on = λ old new passed. passed;
  begun = λ disk first opening. (opening, refl);
  called = λ disk first mid turns turn lived kept call.
      (lived.0, lives_one_more disk_of turns first mid turn lived.1 kept call);
  none = λ old. refl;
  one_more = λ old mid links link chain does. chain_one_more disk_of links old mid link chain does;
}

-- ---- what they answered

-- what all these lives answered, and all those
pub exchanges-on : (lives more : List Life) (e : Exchange)
    → Contains (exchanges_of_lives lives) e ⊎ Contains (exchanges_of_lives more) e
    → Contains (exchanges_of_lives (lives ++ more)) e
exchanges-on [] more e (inl among) = absurd (contains-none e among)
exchanges-on [] more e (inr among) = among
exchanges-on (life ∷ lives) more e (inl among) =
    elim (Contains-append_cases (exchanges_in life) (exchanges_of_lives lives) e among) [
      | inl here ↦ Contains-append_left (exchanges_in life) (exchanges_of_lives (lives ++ more)) e here
      | inr later ↦ Contains-append_right (exchanges_in life) (exchanges_of_lives (lives ++ more)) e
          (exchanges-on lives more e (inl later))
    ]
exchanges-on (life ∷ lives) more e (inr among) =
    Contains-append_right (exchanges_in life) (exchanges_of_lives (lives ++ more)) e
    (exchanges-on lives more e (inr among))

module _ {D : Type 0} (disk_of : D → Disk) where
  -- those of one deed
  by_one : (seen : Image) (deed : Deed D) (first last : EndpointValue D) (turns : List (Transition D))
      (cut : Option Call) (turn : Transition D)
      → deed ≡ Living first turns last cut → Contains turns turn
      → Contains (exchanges_of_lives (lives_of_deed seen deed)) (exchange_of turn)
  by_one seen deed first last turns cut turn same among =
      subst (λ (d : Deed D). Contains (exchanges_of_lives (lives_of_deed seen d)) (exchange_of turn)) (sym same)
      (Contains-append_left (map exchange_of turns) [] (exchange_of turn) (contains-map exchange_of turns turn among))

  pub chains-answer : ChainsAnswer disk_of
  chains-answer old [] link first last turns cut turn among same here = absurd (contains-none link among)
  chains-answer old (next ∷ links) link first last turns cut turn among same here =
      let lives = lives_of_deed (now (disk_of old)).seen next.deed in
      let more = lives_of_links disk_of next.after links in
      elim (contains-cases next links link among) [
        | inl is ↦ exchanges-on lives more (exchange_of turn)
            (inl (by_one (now (disk_of old)).seen next.deed first last turns cut turn
            (ap (λ (l : Link D). l.deed) (sym is) ∙ same) here))
        | inr later ↦ exchanges-on lives more (exchange_of turn)
            (inr (chains-answer next.after links link first last turns cut turn later same here))
      ]

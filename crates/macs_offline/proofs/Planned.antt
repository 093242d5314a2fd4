-- A link's file that was read: what is planned of it, and what is said of it.
use Rattle.std.proofs.Common.{◌≡◌, ◌⊎◌, ◌≤◌, ℕ, ◌++◌, List, [], length, take, Option, Some, None, IfSome, option_map}
use Rattle.std.proofs.Common.{length-take, inl, inr, ap, subst, ◌∙◌, arith, Result, Ok, Err, IfErr}
use Rattle.std.proofs.lemmas.List.{take_all}
use Rattle.std.specs.Str.{IsUtf8}
use Rattle.toml.specs.Data.{Members}
use Rattle.toml.specs.Parse.{parse_document}
use Rattle.macs_commands.specs.Planning.{file_planned}
use Rattle.macs_commands.specs.Reading.{◌>>=◌}
use Rattle.macs_commands.specs.declared.links.link.End.{End}
use Rattle.macs_commands.specs.declared.links.plan_fault.PlanFault.{PlanFault}
use Rattle.macs_commands.specs.declared.links.planning.Stage.{Stage}
use Rattle.macs_offline.specs.Applying.{longest_file}
use Rattle.macs_offline.specs.Plans.{IsSaidOfLink, IsSaidOfLinkText, PlanFails, PlansFile, RefusesLink}
use Rattle.macs_offline.specs.Plans.{RefusesLinkText, RefusesSo, SaysWhy, SaysWhyOfFile, SaysWhyOfText}
use Rattle.macs_offline.specs.Plans.{link_refusal, plan_fault_text}
use Rattle.macs_cli.specs.Reasons.{Complains, IsLinkUnread}
use Rattle.macs_offline.specs.TomlPlaces.{not_toml_text, place_in}
use Rattle.toml.specs.Errors.{IsMemory, IsWithin}
use Rattle.toml.specs.declared.de.error.Error.{Error}
use Rattle.std.proofs.Common.{codes}
use Rattle.macs_cli.specs.declared.failure.Failure.{Failure}
use Rattle.macs_cli.specs.declared.failure.Failure.TheVariants.{Memory}
use Rattle.macs_cli.specs.declared.failure.LinkRefusal.{LinkRefusal}
use Rattle.macs_offline.proofs.Checked.{complains-weaker, short-whole}

module _ (end : End) (stage : Stage) where
  -- a file that says a link was read whole
  plans-whole : (input octets text : List ℕ) → input ≡ take 1048577 octets → PlansFile end stage input text
      → PlansFile end stage octets text
  plans-whole input octets text read plans =
      let short = plans.short in
      let count = length-take 1048577 octets in
      let whole = take_all 1048577 octets (omega (arith, ap length read)) in
      subst (λ (x : List ℕ). PlansFile end stage x text) (read ∙ whole) plans

  -- what is planned of what was read is planned of the file
  pub plans-read : (remaining : Option (List ℕ)) (input text : List ℕ)
      → IfSome (option_map (take 1048577) remaining) (λ octets. input ≡ [] ++ octets)
      → PlansFile end stage input text
      → IfSome remaining (λ octets. PlansFile end stage octets text)
  plans-read None input text read plans = tt
  plans-read (Some octets) input text read plans = plans-whole input octets text read plans

  link-whole : (input octets said : List ℕ) → input ≡ take 1048577 octets → IsSaidOfLink end stage input said
      → IsSaidOfLink end stage octets said
  link-whole input octets said read (inl (long, is)) =
      let count = length-take 1048577 octets in
      inl (omega (arith, long, count, ap length read), is)
  link-whole input octets said read (inr (inl (short, other, is))) =
      subst (λ (x : List ℕ). IsSaidOfLink end stage x said) (short-whole input octets read short)
      (inr (inl (short, other, is)))
  link-whole input octets said read (inr (inr (short, utf8, is))) =
      subst (λ (x : List ℕ). IsSaidOfLink end stage x said) (short-whole input octets read short)
      (inr (inr (short, utf8, is)))

  refused-whole : (input octets : List ℕ) (refusal : LinkRefusal) → input ≡ take 1048577 octets
      → RefusesLink end stage input refusal → RefusesLink end stage octets refusal
  refused-whole input octets refusal read refuses =
      subst (λ (x : List ℕ). RefusesLink end stage x refusal) (short-whole input octets read refuses.0) refuses

  why-whole : (input octets : List ℕ) (failure : Failure) → input ≡ take 1048577 octets
      → SaysWhy end stage input failure → SaysWhy end stage octets failure
  why-whole input octets failure read (inl complains) =
      inl (complains-weaker (IsSaidOfLink end stage input) (IsSaidOfLink end stage octets) failure
      (λ said is. link-whole input octets said read is) complains)
  why-whole input octets failure read (inr (refusal, is, refuses)) =
      inr (refusal, is, refused-whole input octets refusal read refuses)

  -- what is said of what was read is said of the file
  pub why-read : (remaining : Option (List ℕ)) (input : List ℕ) (failure : Failure)
      → IfSome (option_map (take 1048577) remaining) (λ octets. input ≡ [] ++ octets)
      → SaysWhy end stage input failure → IfSome remaining (λ octets. SaysWhy end stage octets failure)
  why-read None input failure read says = tt
  why-read (Some octets) input failure read says = why-whole input octets failure read says

  -- ---- what is said of a text is said of its octets

  pub why-of-text : (octets text : List ℕ) (failure : Failure) → text ≡ octets → length octets ≤ longest_file
      → IsUtf8 octets → SaysWhyOfText end stage text failure → SaysWhy end stage octets failure
  why-of-text octets text failure same short utf8 (inl complains) =
      inl (complains-weaker (IsSaidOfLinkText end stage text) (IsSaidOfLink end stage octets) failure
      (λ said is. inr (inr (short, utf8, subst (λ (x : List ℕ). IsSaidOfLinkText end stage x said) same is)))
      complains)
  why-of-text octets text failure same short utf8 (inr (refusal, is, refuses)) =
      inr (refusal, is, (short, utf8, subst (λ (x : List ℕ). RefusesLinkText end stage x refusal) same refuses))

  -- and what is said of the fault of its members is said of a text
  pub why-of-fault : (text : List ℕ) (members : Members) (fault : PlanFault) (failure : Failure)
      → parse_document text ≡ Some members → file_planned members end stage ≡ Err fault
      → Complains (λ said. (link_refusal fault ≡ None) × (said ≡ plan_fault_text fault)) failure
      ⊎ RefusesSo (λ refusal. link_refusal fault ≡ Some refusal) failure
      → SaysWhyOfText end stage text failure
  why-of-fault text members fault failure parsed fails (inl complains) =
      inl (complains-weaker (λ said. (link_refusal fault ≡ None) × (said ≡ plan_fault_text fault))
      (IsSaidOfLinkText end stage text) failure
      (λ said is. inr (fault, (members, parsed, fails), is.0, is.1)) complains)
  why-of-fault text members fault failure parsed fails (inr (refusal, is, which)) =
      inr (refusal, is, (fault, (members, parsed, fails), which))

  -- a text is no TOML
  pub why-not-toml : (text : List ℕ) (error : Error) (failure : Failure)
      → (¬ IsMemory error → parse_document text ≡ None) → IsWithin text error
      → (failure ≡ Memory) ⊎ ((¬ IsMemory error)
      × Complains (λ said. said ≡ not_toml_text (codes "link file") (place_in text error)) failure)
      → SaysWhyOfText end stage text failure
  why-not-toml text error failure refused within (inl memory) = inl (inl memory)
  why-not-toml text error failure refused within (inr (other, complains)) =
      inl (complains-weaker (λ (said : List ℕ). said ≡ not_toml_text (codes "link file") (place_in text error))
      (IsSaidOfLinkText end stage text) failure (λ said is. inl (refused other, (error, within, is))) complains)

  -- ---- of a file that was opened, or not

  -- nothing could be read of it; or this is why
  abbrev pub EndsOfLink : {F : Type 0} → (F → Option (List ℕ)) → List ℕ → Failure → Type 0
  EndsOfLink left_in name failure = IsLinkUnread name failure
      ⊎ ((octets : List ℕ) × SaysWhy end stage octets failure
      × ((failure ≡ Memory) ⊎ SaysWhyOfFile left_in end stage failure))

  not-planned-of : {F : Type 0} (left_in : F → Option (List ℕ)) (name : List ℕ) (file : F) (failure : Failure)
      → IsLinkUnread name failure ⊎ IfSome (left_in file) (λ octets. SaysWhy end stage octets failure)
      → IsLinkUnread name failure ⊎ ((octets : List ℕ) × SaysWhy end stage octets failure)
      → EndsOfLink left_in name failure
  not-planned-of left_in name file failure (inl unread) ended = inl unread
  not-planned-of left_in name file failure (inr fault) (inl unread) = inl unread
  not-planned-of left_in name file failure (inr fault) (inr (octets, says)) = inr (octets, says, inr (file, fault))

  -- it was opened, and nothing was planned
  pub file-not-planned : {T F : Type 0} (left_in : F → Option (List ℕ)) (name : List ℕ) (file : F)
      (result : Result T Failure)
      → IfErr result (λ failure. IsLinkUnread name failure
      ⊎ IfSome (left_in file) (λ octets. SaysWhy end stage octets failure))
      → IfErr result (λ failure. IsLinkUnread name failure ⊎ ((octets : List ℕ) × SaysWhy end stage octets failure))
      → IfErr result (EndsOfLink left_in name)
  file-not-planned left_in name file (Ok value) fault ended = tt
  file-not-planned left_in name file (Err failure) fault ended = not-planned-of left_in name file failure fault ended

  -- nothing is planned of a file, and nothing was printed
  pub not-planned : {F : Type 0} (left_in : F → Option (List ℕ)) (name : List ℕ) (failure : Failure)
      → EndsOfLink left_in name failure → PlanFails left_in name end stage failure
  not-planned left_in name failure (inl unread) = inl unread
  not-planned left_in name failure (inr said) = inr (inr said)

-- One configuration is found after a life at whose end nothing is under way, and one of two where a command is.
use Rattle.std.proofs.Common.{◌≡◌, ◌⊎◌, inl, inr, List, [], ◌∷◌, ◌++◌, Some, None, Ok, refl, sym, ◌∙◌, ap, subst}
use Rattle.std.proofs.Common.{append-nil, append_assoc}
use Rattle.std.proofs.lemmas.List.{append_cancel_left}
use Rattle.macs_config.specs.Apply.{apply}
use Rattle.macs_config.specs.Config.{Config, Edition}
use Rattle.macs_config.specs.Identity.{Identity}
use Rattle.macs_config.specs.declared.command.Command.{Command}
use Rattle.macs_store.specs.Standing.{Standing}
use Rattle.macs_endpoint.specs.Step.{Exchange}
use Rattle.macs_headline.specs.Commands.{CommandsMake, FindsOne, FindsPrefix, IsPrefix, acknowledged_commands}

-- ---- lists

nothing_behind : {X : Type 0} (xs ys : List X) → xs ++ ys ≡ xs → ys ≡ []
nothing_behind [] ys is = is
nothing_behind (x ∷ xs) ys is = let later : xs ++ ys ≡ xs = cc in nothing_behind xs ys later

nothing_in_front : {X : Type 0} (xs ys : List X) → xs ++ ys ≡ [] → xs ≡ []
nothing_in_front [] ys is = refl
nothing_in_front (x ∷ xs) ys is = absurd (cc)

-- what holds all of a list and is a prefix of it is that list
prefix_of_itself : {X : Type 0} (all kept : List X) → IsPrefix all kept → IsPrefix kept (all ++ []) → kept ≡ all
prefix_of_itself all kept (rest, holds) (more, within) =
    let whole : all ++ (rest ++ more) ≡ all =
    sym (append_assoc all rest more) ∙ ap (λ k. k ++ more) holds ∙ within ∙ append-nil all in
    let none : rest ≡ [] = nothing_in_front rest more (nothing_behind all (rest ++ more) whole) in
    sym holds ∙ ap (λ k. all ++ k) none ∙ append-nil all

none_or_one : {X : Type 0} (xs ys : List X) (x : X) → xs ++ ys ≡ x ∷ [] → (xs ≡ []) ⊎ (xs ≡ x ∷ [])
none_or_one [] ys x is = inl refl
none_or_one (y ∷ xs) ys x is =
    let same : y ≡ x = cc in
    let none : xs ++ ys ≡ [] = cc in
    inr (ap (λ k. y ∷ k) (nothing_in_front xs ys none) ∙ ap (λ k. k ∷ []) same)

-- what holds all of a list and is a prefix of it with one item more is the one or the other
all_or_one_more : {X : Type 0} (all kept : List X) (x : X) → IsPrefix all kept → IsPrefix kept (all ++ x ∷ [])
    → (kept ≡ all) ⊎ (kept ≡ all ++ x ∷ [])
all_or_one_more all kept x (rest, holds) (more, within) =
    let whole : all ++ (rest ++ more) ≡ all ++ x ∷ [] = sym (append_assoc all rest more)
    ∙ ap (λ k. k ++ more) holds ∙ within in
    elim (none_or_one rest more x (append_cancel_left all (rest ++ more) (x ∷ []) whole)) [
      | inl none ↦ inl (sym holds ∙ ap (λ k. all ++ k) none ∙ append-nil all)
      | inr one ↦ inr (sym holds ∙ ap (λ k. all ++ k) one)
    ]

-- ---- commands

-- the first of these commands, and then the others
made_parts : (edition : Edition) (identity : Identity) (old : Config) (xs ys : List Command) (new : Config)
    → CommandsMake edition identity old (xs ++ ys) new
    → (mid : Config) × CommandsMake edition identity old xs mid × CommandsMake edition identity mid ys new
made_parts edition identity old [] ys new made = (old, refl, made)
made_parts edition identity old (x ∷ xs) ys new (next, ok, made) =
    let parts = made_parts edition identity next xs ys new made in
    (parts.0, (next, ok, parts.1), parts.2)

made_once : (edition : Edition) (identity : Identity) (old : Config) (commands : List Command) (a b : Config)
    → CommandsMake edition identity old commands a
    → CommandsMake edition identity old commands b → a ≡ b
made_once edition identity old [] a b is so = is ∙ sym so
made_once edition identity old (c ∷ commands) a b (mid, ok, makes) (other, also, made) =
    let same : mid ≡ other = cc in
    made_once edition identity other commands a b
    (subst (λ (k : Config). CommandsMake edition identity k commands a) same makes) made

-- all that was acknowledged, and nothing else
acknowledged_make : (before : Standing) (exchanges : List Exchange) (after : Standing)
    → FindsPrefix before exchanges None after
    → CommandsMake before.edition before.identity before.config (acknowledged_commands exchanges) after.config
acknowledged_make before exchanges after finds =
    subst (λ (kept : List Command). CommandsMake before.edition before.identity before.config kept after.config)
    (prefix_of_itself (acknowledged_commands exchanges) finds.kept finds.acknowledged finds.accepted) finds.made

-- or the command under way after it
with_one_more : (before : Standing) (exchanges : List Exchange) (command : Command) (after : Standing)
    (finds : FindsPrefix before exchanges (Some command) after)
    → (finds.kept ≡ acknowledged_commands exchanges) ⊎ (finds.kept ≡ acknowledged_commands exchanges ++ command ∷ [])
with_one_more before exchanges command after finds =
    all_or_one_more (acknowledged_commands exchanges) finds.kept command finds.acknowledged finds.accepted

-- it takes effect on what the others made
made_with : (before without after : Standing) (exchanges : List Exchange) (command : Command)
    → FindsPrefix before exchanges None without
    → CommandsMake before.edition before.identity before.config (acknowledged_commands exchanges ++ command ∷ [])
    after.config
    → apply before.edition before.identity without.config command ≡ Ok after.config
made_with before without after exchanges command one made =
    let edition = before.edition in
    let identity = before.identity in
    let all = acknowledged_commands exchanges in
    let parts = made_parts edition identity before.config all (command ∷ []) after.config made in
    let mid : parts.0 ≡ without.config =
    made_once edition identity before.config all parts.0 without.config parts.1
    (acknowledged_make before exchanges without one) in
    let last = parts.2 in
    subst (λ (k : Config). apply edition identity k command ≡ Ok after.config) mid
    (subst (λ (k : Config). apply edition identity parts.0 command ≡ Ok k) (sym last.2) last.1)

pub finds-one : FindsOne
finds-one = record {
  none_under_way = λ before a b exchanges one other. (
    made_once before.edition before.identity before.config (acknowledged_commands exchanges) a.config b.config
        (acknowledged_make before exchanges a one) (acknowledged_make before exchanges b other),
    one.identity ∙ sym other.identity,
  );
  one_under_way = λ before without after exchanges command one other. (
    elim (with_one_more before exchanges command after other) [
      | inl same ↦ inl (made_once before.edition before.identity before.config (acknowledged_commands exchanges)
          after.config without.config
          (subst (λ (kept : List Command). CommandsMake before.edition before.identity before.config kept after.config)
          same other.made)
          (acknowledged_make before exchanges without one))
      | inr more ↦ inr (made_with before without after exchanges command one
          (subst (λ (kept : List Command). CommandsMake before.edition before.identity before.config kept after.config)
          more other.made))
    ],
    other.identity ∙ sym one.identity,
  );
}

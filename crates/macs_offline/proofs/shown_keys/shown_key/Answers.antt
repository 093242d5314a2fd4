use Rattle.std.proofs.Common.{◌++◌, ◌∙◌, ap, List, string_bytes, ℕ}
use Rattle.std.proofs.lemmas.Result.{IfOk-weaker}
use Rattle.std.proofs.lemmas.Str.{IsUtf8-string_bytes}
use Rattle.macs_offline.specs.ShownKeys.{more_mark}
use Rattle.macs_offline.proofs.ShownKeys.{front-shown}
use Rattle.macs_offline.proofs.shown_keys.shown_key.Goals as goal

pub returns : goal.returns
returns c =
    let whole = front-shown 64 c.args.key.now (string_bytes c.in_ok-front.front) (string_bytes c.in_ok-shown.shown)
    c.utf8.key c.in_ok-front.ensures (IsUtf8-string_bytes c.in_ok-shown.shown)
    (rw c.as_str.ensures.value at c.in_ok-shown.ensures.each) in
    IfOk-weaker c.format.result _ _ (λ text is. is ∙ ap (λ (l : List ℕ). l ++ more_mark c.args.key.now) whole)
    (rw c.more_mark-more.ensures at c.format.ensures.ok)

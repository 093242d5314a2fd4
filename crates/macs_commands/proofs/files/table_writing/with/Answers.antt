use Rattle.std.proofs.Common.{◌≡◌, ◌∙◌, ◌∷◌, ℕ, List, [], String, Ordering, Less, Equal, Greater, string_bytes, refl}
use Rattle.std.specs.BTreeMap.{insert_entry}
use Rattle.std.specs.Ordering.{match_ordering}
use Rattle.std.specs.String.{string_cmp}
use Rattle.std.specs.declared.alloc.Global.{Global}
use Rattle.toml.specs.Data.{Data, Members}
use Rattle.toml.specs.View.{members_view, view}
use Rattle.toml.specs.declared.value.Value.{Value}
use Rattle.macs_commands.specs.Writing.{put_member}
use Rattle.macs_commands.proofs.files.table_writing.with.Goals as goal

-- A table with a value more, as members.
abbrev Entry : Type 0
Entry = String Global × Value

by_order : (o : Ordering) (a b c : List Entry)
    → members_view (match_ordering o a b c) ≡ match_ordering o (members_view a) (members_view b) (members_view c)
by_order Less a b c = refl
by_order Equal a b c = refl
by_order Greater a b c = refl

inserted : (key : String Global) (value : Value) (es : List Entry)
    → members_view (insert_entry string_cmp es key value) ≡ put_member (string_bytes key) (view value) (members_view es)
inserted key value [] = refl
inserted key value (e ∷ es) = by_order (string_cmp key e.0) _ _ _ ∙ rw (inserted key value es)

-- the entries of a table after an insert
inserted_at : (key : String Global) (name : List ℕ) (value : Value) (seen : Data) (es new : List Entry)
    (before : Members)
    → string_bytes key ≡ name → view value ≡ seen → members_view es ≡ before
    → new ≡ insert_entry string_cmp es key value
    → members_view new ≡ put_member name seen before
inserted_at key name value seen es new before named is had after =
    rw (after, ← named, ← is, ← had) (inserted key value es)

pub returns-in-Ok-insert : goal.returns-in-Ok-insert
returns-in-Ok-insert c before seen had is =
    inserted_at c.in-Ok-from_str.key c.args.key.now c.in-Ok-value.value seen c.in-Ok.table.entries
    c.insert.new.self.entries before
    c.in-Ok-from_str.ensures.ok (rw c.in-Ok-value.is at is) (rw c.in-Ok.is at had) c.in-Ok-insert.ensures.entries

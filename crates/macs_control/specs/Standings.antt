-- The state of a client of a relay.
use Rattle.std.specs.List.{starts_with}
use Rattle.std.specs.Prelude.{◌+◌, ◌-◌, ◌==◌, ◌&&◌, ◌^◌, if◌then◌else◌, ℕ, Bool, true, false, min, nat_eq, nat_le}
use Rattle.std.specs.Prelude.{List, codes, drop, length}
use Rattle.macs_control.specs.declared.seat.Hearing.{Hearing}
use Rattle.macs_control.specs.declared.seat.Hearing.TheVariants as hears
use Rattle.macs_control.specs.declared.standing.Standing.{Standing}

-- a client that connected in this second: no answer is due
abbrev pub new_standing : ℕ → Standing
new_standing now = record { due = 0; has_ended = false; since = now }

-- One more answer is due for each line that is heard. The end of what a client sends is remembered
abbrev pub after_hearing : ℕ → Hearing → Standing → Standing
after_hearing now (hears.Line line) standing =
    record standing { due = min (standing.due + 1) (2 ^ 64 - 1); since = now }
after_hearing now hears.Ended standing = record standing { has_ended = true }
after_hearing now hears.Silence standing = standing
after_hearing now hears.Gone standing = standing

-- one answer fewer is due
abbrev pub after_answer : ℕ → Standing → Standing
after_answer now standing = record standing { due = standing.due - 1; since = now }

-- the last line of a text is `end` and a status of one digit
abbrev pub ends_answer : List ℕ → Bool
ends_answer text = starts_with nat_eq (drop (length text - 6) text) (codes "end ")

-- one answer fewer is due after a text that ends one
abbrev pub after_saying : ℕ → List ℕ → Standing → Standing
after_saying now text standing = if ends_answer text then after_answer now standing else standing

-- it sends no more
abbrev pub has_ended : Standing → Bool
has_ended standing = standing.has_ended

-- it sends no more, and no answer is due
abbrev pub is_over : Standing → Bool
is_over standing = standing.has_ended && standing.due == 0

-- It loses its place after this was heard: it is gone, or sends no more and no answer is due
abbrev pub is_let_go : Hearing → Standing → Bool
is_let_go hears.Gone standing = true
is_let_go (hears.Line line) standing = false
is_let_go hears.Silence standing = is_over standing
is_let_go hears.Ended standing = is_over standing

-- A newcomer may have its place: no answer is due, and two seconds have ended since it connected, or since its last
-- line was heard or answered
abbrev pub is_idle : ℕ → Standing → Bool
is_idle now standing = standing.due == 0 && nat_le 2 (now - standing.since)

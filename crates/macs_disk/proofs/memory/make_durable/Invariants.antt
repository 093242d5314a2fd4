use Rattle.std.proofs.Common.{◌≡◌, ◌<◌, ℕ, false, length}
use Rattle.std.specs.Prelude.{None}
use Rattle.macs_disk.specs.CallLists.{choice_at, flag_at, sectors_in}
use Rattle.macs_disk.proofs.memory.make_durable.Given as goal

abbrev pub invariant-loop-i : goal.invariant-loop-i
invariant-loop-i g l = record {
  as_durable : length l.durable.items ≡ length l.seen;
  as_flags : length l.pending.items ≡ length l.seen;
  as_choices : length l.choices.items ≡ length l.seen;
  clean : (k : ℕ) → flag_at l.pending.items k ≡ false → sectors_in l.seen k ≡ sectors_in l.durable.items k;
  unchosen : (k : ℕ) → flag_at l.pending.items k ≡ false → choice_at l.choices.items k ≡ None;
  done : (k : ℕ) → k < l.i → flag_at l.pending.items k ≡ false;
}

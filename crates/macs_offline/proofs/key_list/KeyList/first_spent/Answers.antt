use Rattle.std.proofs.Common.{string_bytes}
use Rattle.macs_offline.proofs.key_list.KeyList.first_spent.Goals as goal

pub returns : goal.returns
returns g c = (
  string_bytes c.in_ok-list.list,
  rw (c.as_slice.ensures.value, c.in_ok-keys.ensures, c.as_str-2.ensures.value) at c.first_spent.ensures,
)

-- Calls, as far as it is known which were made.
use Rattle.std.specs.Prelude.{◌++◌, List, Option}
use Rattle.std.specs.Option.{option_map}

-- the known calls, if they are known, and these
abbrev pub with_calls : {Call : Type 0} → Option (List Call) → List Call → Option (List Call)
with_calls known more = option_map (λ before. before ++ more) known

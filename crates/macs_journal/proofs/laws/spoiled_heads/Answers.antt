use Rattle.std.proofs.Common.{inl, inr}
use Rattle.macs_journal.proofs.Findings.{bad_alone, headless_at, later_found}
use Rattle.macs_journal.proofs.laws.spoiled_heads.Goals as goal

pub returns-clause-headless : goal.returns-clause-headless
returns-clause-headless c = λ sectors area image found within opened lacks large is.
    bad_alone sectors image found (headless_at image area within (opened, lacks)) large is

pub returns-clause-alike : goal.returns-clause-alike
returns-clause-alike c = λ sectors image found first second has_first has_second same large is.
    bad_alone sectors image found (inr (inl (record {
      first = first;
      second = second;
      has_first = has_first;
      has_second = has_second;
      odd = inl same;
    }))) large is

pub returns-clause-apart : goal.returns-clause-apart
returns-clause-apart c = λ sectors image found first second has_first has_second differ large is.
    bad_alone sectors image found (inr (inl (record {
      first = first;
      second = second;
      has_first = has_first;
      has_second = has_second;
      odd = inr differ;
    }))) large is

pub returns-clause-later : goal.returns-clause-later
returns-clause-later c = λ sectors area image content head before within has other less same is.
    later_found image area content head before within has other less same is.1

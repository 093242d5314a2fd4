use Rattle.std.proofs.Common.{inl, inr}
use Rattle.macs_record.proofs.laws.record_refusals.Goals as goal

pub returns-clause-kind : goal.returns-clause-kind
returns-clause-kind c = λ sector fault is lacks. elim is [
  | inl here ↦ here.1
  | inr later ↦ absurd (later.0 lacks)
]

pub returns-clause-field : goal.returns-clause-field
returns-clause-field c = λ sector fault is has lacks. elim is [
  | inl here ↦ absurd (here.0 has)
  | inr later ↦ elim later.1 [
    | inl here ↦ here.1
    | inr more ↦ absurd (more.0 lacks)
  ]
]

pub returns-clause-rest : goal.returns-clause-rest
returns-clause-rest c = λ sector fault is has fields. elim is [
  | inl here ↦ absurd (here.0 has)
  | inr later ↦ elim later.1 [
    | inl here ↦ absurd (here.0 fields)
    | inr more ↦ elim more.1 [
      | inl here ↦ (here.1, here.0)
      | inr last ↦ absurd last.1
    ]
  ]
]

-- What lies in a caller's memory, taken out and put back.
use Rattle.macs_c.proofs.Steps.{◌≡◌, [], ◌∷◌, refl, Bool, true, false, Option, Some, None, Ura, full_share, ent, id⊢}
use Rattle.macs_c.proofs.Steps.{never_e, Logic, sem, ‵, ◌⊛◌, some, ◌$◌, ◌∵◌, !, qed, by, done, use1, pick, split, keep}
use Rattle.macs_c.proofs.Steps.{check, RattleType, Ptr, block_ptr, lies_at, room_at, part_at, lone, One, part_out}
use base.Logic.{guard}
use mir.Val.{Val}
use base.Fml.{fat}
use Rattle.macs_c.specs.Held.{held}

module _ {M : Type 1} {𝓤 : Ura M} (𝓛 : Logic 𝓤) (R : RattleType) where
  -- a value lies there
  pub held_some : (f : Bool) (p : Ptr) (x : R.Denot)
      → ent 𝓤 (sem 𝓛 (held R f p (Some x))) (guard 𝓤 (f ≡ true) (sem 𝓛 (lies_at R full_share p x)))
  held_some true p x = qed 𝓛 (‵ (lies_at R full_share p x) ∷ []) ∵ check ! refl $ done !
  held_some false p x = never_e 𝓤 _

  -- there is room
  pub held_none : (f : Bool) (p : Ptr) → ent 𝓤 (sem 𝓛 (held R f p None)) (guard 𝓤 (f ≡ false) (sem 𝓛 (room_at R p)))
  held_none true p = never_e 𝓤 _
  held_none false p = qed 𝓛 (‵ (room_at R p) ∷ []) ∵ check ! refl $ done !

  -- a value is room
  pub lies_room : One R → (p : Ptr) (x : R.Denot) → ent 𝓤 (sem 𝓛 (lies_at R full_share p x)) (sem 𝓛 (room_at R p))
  lies_room one Ptr.null_ptr x = never_e 𝓤 _
  lies_room one (block_ptr b o) x = qed 𝓛 (‵ (part_at R full_share x b o) ∷ []) ∵
      use1 𝓛 (some (λ (v : Val). ‵ (fat full_share (lone R.mir) b o v) ⊛ ‵ (R.own_val x (v ∷ [])))) (part_out 𝓛 R one
      full_share x b o) $ pick ! (λ v. split ! $ keep ! (0 ∷ []) $ by ! (𝓛.laws.at_room (lone R.mir) b o v))

  -- what lies there, or not, is room
  pub held_room : One R → (f : Bool) (p : Ptr) (v : Option R.Denot) → ent 𝓤 (sem 𝓛 (held R f p v)) (sem 𝓛 (room_at R p))
  held_room one true p (Some x) = lies_room one p x
  held_room one true p None = never_e 𝓤 _
  held_room one false p (Some x) = never_e 𝓤 _
  held_room one false p None = id⊢ 𝓤 _

-- the flag says whether there is a value
module _ {M : Type 1} {𝓤 : Ura M} (𝓛 : Logic 𝓤) (R : RattleType) where
  pub held_flag : (f : Bool) (p : Ptr) (v : Option R.Denot)
      → ent 𝓤 (sem 𝓛 (held R f p v)) (guard 𝓤 (f ≡ Rattle.std.specs.Prelude.is_some v) (sem 𝓛 (held R f p v)))
  held_flag true p (Some x) = qed 𝓛 (‵ (held R true p (Some x)) ∷ []) ∵ check ! refl $ done !
  held_flag true p None = never_e 𝓤 _
  held_flag false p (Some x) = never_e 𝓤 _
  held_flag false p None = qed 𝓛 (‵ (held R false p None) ∷ []) ∵ check ! refl $ done !

-- The handle taken apart and made again.
use Rattle.macs_c.proofs.Steps.{◌≡◌, ℕ, List, [], ◌∷◌, refl, sym, Bool, true, Option, Some, None, IsSome, Ura}
use Rattle.macs_c.proofs.Steps.{full_share, ent, sep, Logic, sem, ‵, ◌$◌, ◌∵◌, !, qed, done, rewrite, fjoin, fpack}
use Rattle.macs_c.proofs.Steps.{feq_i, move, nothing, Ptr, block_ptr, lies_at, part_at, mem, cell_at}
use lib.Dec.{T}
use denote.Memory.{part_of}
use mir.Syntax.{Ty}
use mir.Val.{Val, vbool, vstruct, vcons, vnil, has_ty, WT}
use base.Fml.{Fml, fsep}
use types.Kit.{Item, Goal, Step, step}
use denote.Builtin.{bool}
use denote.Laws.{Typed}
use denote.RattleType.{Valss}
use denote.RawPtr.{RawPtr, ptr_val}
use denote.Struct.Struct.{Struct, within}
use denote.Struct.Owning.{shape}
use Rattle.macs_c.specs.Held.{held}
use Rattle.macs_c.specs.Lent.{with_slot}
use Rattle.macs_c.specs.declared.handle.MacsEndpoint.{MacsEndpoint}
use Rattle.macs_c.specs.contracts.handle.MacsEndpoint.{the_row as HR, the_type as HO}
use Rattle.macs_c.specs.contracts.slot.Slot.{the_row as R}

-- the machine value
abbrev pub word : Ptr → Bool → Val
word p f = vstruct (vcons (ptr_val p) (vcons (vbool f) vnil))

abbrev pub some_of : {X : Type 0} (v : Option X) → IsSome v → (x : X) × (v ≡ Some x)
some_of (Some x) is = (x, refl)
some_of None is = absurd cc

abbrev pub one_val : (τ : Ty) (vs : List Val) → Typed (τ ∷ []) vs → (v : Val) × (vs ≡ v ∷ []) × (T (has_ty τ v) × WT v)
one_val τ [] t = absurd t
one_val τ (v ∷ []) t = (v, refl, t.0)
one_val τ (v ∷ u ∷ vs) t = absurd t.1

module _ {M : Type 1} {𝓤 : Ura M} {𝓛 : Logic 𝓤} {K : Type 0} {Γ : List (Item 𝓤)} {G : Goal 𝓤 𝓛.H} where
  -- the fields own only what they are
  pub fields_in : K → (p : Ptr) (f : Bool)
      → Step K 𝓛 (‵ ((Struct (shape HO)).own_val (p, (f, tt)) (word p f ∷ [])) ∷ Γ) G Γ G
  fields_in t p f = step (λ s.
      nothing t $ feq_i t (List Val) (vbool f ∷ []) (vbool f ∷ []) refl $ fjoin t $ feq_i t (List Val) (ptr_val p ∷ [])
      (ptr_val p ∷ []) refl $ fjoin t $
      feq_i t (List Val) (word p f ∷ []) (word p f ∷ []) refl $ fjoin t $
      fpack t (Valss (RawPtr ∷ bool ∷ [])) (within (shape HO) (p, (f, tt)) (word p f ∷ []))
      (ptr_val p ∷ [], (vbool f ∷ [], tt)) $ s)

module _ {M : Type 1} {𝓤 : Ura M} (𝓛 : Logic 𝓤) (h : MacsEndpoint) (b o rb ro : ℕ) where
  -- all of the handle but the value
  abbrev pub Rest : Fml
  Rest = cell_at full_share HR.mir (word h.at h.is_open ∷ []) rb ro

  -- with a value there it is the handle again
  pub back : h.at ≡ block_ptr b o → h.is_open ≡ true → (w : R.Denot)
      → ent 𝓤 (sep 𝓤 (sem 𝓛 ((mem R).own_at w b o)) (sem 𝓛 Rest)) (sem 𝓛 ((mem HR).own_at (with_slot h w) rb ro))
  unfolding part_of
  back e flag w =
      qed 𝓛 (‵ (part_at R full_share w b o) ∷ ‵ Rest ∷ []) ∵
      rewrite ! 0 (λ (p : Ptr). ‵ (lies_at R full_share p w)) (sym e) refl $ rewrite ! 0
      (λ (f : Bool). ‵ (held R f h.at (Some w))) (sym flag) refl $
      fields_in ! h.at h.is_open $ fjoin ! $ move ! (1 ∷ 0 ∷ []) $ fjoin ! $
      fpack ! (List Val) (λ us. fsep (cell_at full_share HR.mir us rb ro) (HR.own_val (with_slot h w) us))
      (word h.at h.is_open ∷ []) $ done !

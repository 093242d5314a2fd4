use Rattle.macs_c.proofs.Steps.{List, [], ◌∷◌, ◌≡◌, refl, proved, full_share, ftrue, flft, named, Val, tables, ‵, given}
use Rattle.macs_c.proofs.Steps.{◌⊛◌, ◌$◌, ◌∵◌, !, qed, done, move, keep, drop, use1, split, join, fsplit, fsplit3}
use Rattle.macs_c.proofs.Steps.{fjoin, learn, rewrite, suffices, frame, group, enter, of_opd, load, stop, fld, returns}
use Rattle.macs_c.proofs.Steps.{alloc_all, pass_all, free_all, look_at, through, sets, look_in, sub, whole, bool, shows}
use Rattle.macs_c.proofs.Steps.{MutRef, mut_vals, mut_Tells, plain, nothing, owned, opens, closes, peeks, Stays}
use Rattle.macs_c.proofs.Steps.{walk_of, says, stay_ref, Goes-ref, ends_at, cell_at, is_some}
use denote.Plain.{bool_Makes}
use Rattle.macs_c.specs.Held.{held}
use Rattle.macs_c.proofs.Held.{held_flag}
use Rattle.macs_c.proofs.Handles.{word, fields_in}
use Rattle.macs_c.specs.contracts.handle.MacsEndpoint.is_open as f
use Rattle.macs_c.proofs.handle.MacsEndpoint.is_open.Statement.{statement}
use Rattle.macs_c.proofs.handle.MacsEndpoint.is_open.Code as code
use Rattle.macs_c.specs.contracts.handle.MacsEndpoint.{the_row as HR}
use Rattle.macs_c.specs.contracts.slot.Slot.{the_row as R}
use Rattle.macs_c.proofs.handle.MacsEndpoint.TheLaws.{lowers}

abbrev stayed : Stays f.ended.signature.params f.ended.kept
stayed = (stay_ref (0 ∷ []) tt (plain (λ _. HR)), tt)

pub is_open_spec : {M : Type 1} → statement M
is_open_spec 𝓤 𝓛 𝓜 𝓡 wired =
    let c = f.clauses 𝓛 𝓜.mem 𝓡.returns in let W = walk_of 𝓛 f.ended stayed c in let 𝓣 = tables 𝓤 𝓛.H 𝓜 𝓡 𝓡.env in
    proved 𝓛 f.ended stayed c 𝓜 𝓡 (Goes-ref 𝓛 1 0 tt (plain (λ _. HR)), tt)
    f.Key.name code.function (code.unfolded 𝓤 𝓛.H 𝓜 𝓡 wired)
    (λ κs. (mut_vals, tt)) (λ κs. (mut_Tells (named 0) κs.0 HR, tt)) (λ κs qs bounds a _ are.
    let rb = a.0.ref_ptr.0 in let ro = a.0.ref_ptr.1 in let h = a.0.now in let vs = mut_vals a.0 in
    let y : W.Ghost = ((κs, qs, bounds, a, (vs, tt)), tt) in
    qed 𝓛 (((‵ (flft κs.0 qs.0) ⊛ ‵ ftrue) ⊛ ‵ ((MutRef (named 0) κs.0 HR).own_val a.0 vs) ⊛ ‵ ftrue) ∷ ‵ ftrue ∷ []) ∵
    split ! $ split ! $ move ! (2 ∷ []) $ split ! $ keep ! (0 ∷ 2 ∷ []) $
    enter ! _ _ _ _ _ $ alloc_all ! (λ l. pass_all ! refl ((tt, tt), tt) $
    fsplit3 ! $ move ! (1 ∷ 2 ∷ 3 ∷ []) $ opens ! tt HR rb ro (λ us.
    move ! (1 ∷ []) $ peeks ! HR _ (shows 𝓛 HR) h us (λ is. fsplit ! $ drop ! $
    use1 𝓛 (given (h.is_open ≡ is_some h.value) (‵ (held R h.is_open h.at h.value)))
    (held_flag 𝓛 R h.is_open h.at h.value) $ learn ! (λ flag.
    let Cell = λ (ws : List Val). ‵ (cell_at full_share HR.mir ws rb ro) in
    rewrite ! 1 Cell (lowers.val_is h us is) refl $
    sets ! (of_opd ! (load ! (through ! refl (fld ! refl (stop !))) (look_in ! 1 (sub ! 1 refl (whole !)))))
    refl (tt, tt) $
    fields_in ! h.at h.is_open $ fjoin ! $ move ! (1 ∷ []) $ closes ! tt HR h (word h.at h.is_open ∷ []) rb ro $
    returns ! (look_at ! 0 refl) $ free_all ! refl $ move ! (3 ∷ []) $
    suffices ! _ (ends_at 𝓛 f.ended stayed c y (mir.Val.vbool h.is_open) h.is_open (h, tt) (tt, tt)) $ says !
    (flag, refl) $
    group ! 3 $ nothing ! $ move ! (1 ∷ 0 ∷ []) $ join ! $ nothing ! $ move ! (2 ∷ 0 ∷ []) $ join ! $ frame
    ! $ frame ! $
    owned ! bool _ (bool_Makes 𝓛) h.is_open _ refl $ done !)))))

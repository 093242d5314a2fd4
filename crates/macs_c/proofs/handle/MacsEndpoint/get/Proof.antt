use Rattle.macs_c.proofs.Steps.{List, [], ◌∷◌, ◌≡◌, refl, sym, ap, ◌∙◌, true, Option, proved, full_share, id⊢, ftrue}
use Rattle.macs_c.proofs.Steps.{flft, named, Val, vptr, tables, fact, ‵, raw, given, later, some, ◌⊛◌, at_ret, ◌$◌, ◌∵◌}
use Rattle.macs_c.proofs.Steps.{ !, qed, done, move, keep, drop, use1, split, join, fsplit, fsplit3, fjoin, learn, pick}
use Rattle.macs_c.proofs.Steps.{await, heard, rewrite, suffices, frame, group, enter, of_opd, load, addr, stop, fld}
use Rattle.macs_c.proofs.Steps.{first, blocks, exec, returns, alloc_all, pass_all, free_all, look_at, get, through}
use Rattle.macs_c.proofs.Steps.{sets, sets_last, env, after, look_in, sub, whole, shows, MutRef, mut_vals, mut_Tells}
use Rattle.macs_c.proofs.Steps.{plain, mut_ref_to, nothing, opens, peeks, Stays, walk_of, says, stay_dropped}
use Rattle.macs_c.proofs.Steps.{Goes-spent_ref, ends_at, follows, cell_at, IsSome, Ptr, lies_at, in_a_block, Part}
use Rattle.macs_c.proofs.Steps.{lends_Part, GName, sem}
use Rattle.macs_c.specs.Held.{held}
use Rattle.macs_c.specs.Lent.{with_slot}
use Rattle.macs_c.proofs.Held.{held_some}
use Rattle.macs_c.proofs.Handles.{word, some_of, Rest, back}
use Rattle.macs_c.specs.contracts.handle.MacsEndpoint.get as f
use Rattle.macs_c.proofs.handle.MacsEndpoint.get.Statement.{statement}
use Rattle.macs_c.proofs.handle.MacsEndpoint.get.Code as code
use Rattle.macs_c.specs.contracts.handle.MacsEndpoint.{the_row as HR}
use Rattle.macs_c.specs.contracts.slot.Slot.{the_row as R}
use Rattle.macs_c.proofs.handle.MacsEndpoint.TheLaws.{lowers}

abbrev stayed : Stays f.ended.signature.params f.ended.kept
stayed = (stay_dropped (mut_ref_to (0 ∷ []) tt (plain (λ _. HR))) _, tt)

pub get_spec : {M : Type 1} → statement M
get_spec 𝓤 𝓛 𝓜 𝓡 wired =
    let c = f.clauses 𝓛 𝓜.mem 𝓡.returns in let W = walk_of 𝓛 f.ended stayed c in let 𝓣 = tables 𝓤 𝓛.H 𝓜 𝓡 𝓡.env in
    proved 𝓛 f.ended stayed c 𝓜 𝓡 (Goes-spent_ref 𝓛 1 (0 ∷ []) tt (plain (λ _. HR)), tt)
    f.Key.name code.function (code.unfolded 𝓤 𝓛.H 𝓜 𝓡 wired)
    (λ κs. (mut_vals, tt)) (λ κs. (mut_Tells (named 0) κs.0 HR, tt)) (λ κs qs bounds a n are.
    let κ = κs.0 in let q = qs.0 in let γ = a.0.ghost_name in
    let rb = a.0.ref_ptr.0 in let ro = a.0.ref_ptr.1 in let h = a.0.now in let vs = mut_vals a.0 in
    let y : W.Ghost = ((κs, qs, bounds, a, (vs, tt)), n) in
    qed 𝓛 (((‵ (flft κ q) ⊛ ‵ ftrue) ⊛ ‵ ((MutRef (named 0) κ HR).own_val a.0 vs) ⊛ ‵ ftrue)
    ∷ raw (fact 𝓤 (IsSome h.value)) ∷ []) ∵
    move ! (1 ∷ []) $ heard ! _ (λ filled. split ! $ split ! $ move ! (2 ∷ []) $ split ! $ keep ! (0 ∷ 2 ∷ []) $
    enter ! _ _ _ _ _ $ alloc_all ! (λ l. pass_all ! refl ((tt, tt), tt) $
    fsplit3 ! $ move ! (1 ∷ 2 ∷ 3 ∷ []) $ opens ! tt HR rb ro (λ us.
    move ! (1 ∷ []) $ peeks ! HR _ (shows 𝓛 HR) h us (λ is. fsplit ! $ drop ! $
    let found = some_of h.value filled in let x = found.0 in
    rewrite ! 0 (λ (v : Option R.Denot). ‵ (held R h.is_open h.at v)) found.1 refl $
    use1 𝓛 (given (h.is_open ≡ true) (‵ (lies_at R full_share h.at x))) (held_some 𝓛 R h.is_open h.at x) $
    learn ! (λ flag.
    in_a_block ! h.at (λ p. lies_at R full_share p x) (id⊢ 𝓤 _) (λ b o e.
    let Cell = λ (ws : List Val). ‵ (cell_at full_share HR.mir ws rb ro) in
    let at_block = ap (λ (p : Ptr). word p h.is_open ∷ []) e in
    rewrite ! 1 Cell (lowers.val_is h us is ∙ at_block) refl $
    first ! $ blocks ! $
    sets ! (of_opd ! (load ! (through ! refl (fld ! refl (stop !))) (look_in ! 1 (sub ! 0 refl (whole !)))))
    refl (tt, tt) $
    sets ! (of_opd ! (get ! refl)) refl (tt, tt) $
    sets_last ! (addr ! (through ! refl (stop !))) refl (tt, tt) $
    exec ! 𝓣.C 𝓣.Λ (env code.Mir.locals l) (after 1 (code.function).body) (at_ret _ (W.post y)) $
    sets ! (of_opd ! (get ! refl)) refl (tt, tt) $
    rewrite ! 1 Cell (sym at_block) refl $
    move ! (2 ∷ 3 ∷ 4 ∷ 0 ∷ 1 ∷ []) $ group ! 5 $
    use1 𝓛 (later (some (λ (γ' : GName). raw (Part 𝓛 HR R (with_slot h) (named 0) κ q rb ro b o γ
    (sem 𝓛 (Rest 𝓛 h b o rb ro)) (back 𝓛 h b o rb ro e flag) x γ'))))
    (lends_Part 𝓛 HR R (with_slot h) (named 0) κ q rb ro b o γ (sem 𝓛 (Rest 𝓛 h b o rb ro)) (back 𝓛 h b o rb ro e flag)
    (HR.coded.code h) (HR.coded.code h) x) $ await ! tt $ pick ! (λ γ'.
    returns ! (look_at ! 0 refl) $ free_all ! refl $ keep ! (0 ∷ []) $
    use1 𝓛 (‵ ((MutRef (named 0) κ R).own_val (record { ref_ptr = (b, o); ghost_name = γ'; now = x }) (vptr b o ∷ [])) ⊛
    ‵ (flft κ q) ⊛ ‵ (follows HR R γ γ' (with_slot h))) (id⊢ 𝓤 _) $
    split ! $ move ! (1 ∷ []) $ split ! $ move ! (2 ∷ 0 ∷ []) $
    -- [the result; the token; what follows]
    suffices ! _ (ends_at 𝓛 f.ended stayed c y (vptr b o) (record { ref_ptr = (b, o); ghost_name = γ'; now = x })
    (tt, tt) (tt, tt)) $
    nothing ! $ nothing ! $ fjoin ! $ join ! $ nothing ! $ move ! (2 ∷ 0 ∷ []) $ join ! $ join ! $ frame ! $ says !
    found.1 $ done !))))))))

use Rattle.macs_c.proofs.Steps.{List, [], ◌∷◌, ◌++◌, ◌≡◌, refl, sym, ap, ◌∙◌, true, false, Option, Some, None}
use Rattle.macs_c.proofs.Steps.{full_share, id⊢, ftrue, flft, named, Val, vunit, tables, fact, ‵, raw, given, ◌⊛◌}
use Rattle.macs_c.proofs.Steps.{at_ret, ◌$◌, ◌∵◌, !, qed, done, move, keep, drop, use1, use2, split, join, fsplit}
use Rattle.macs_c.proofs.Steps.{fsplit3, fjoin, feq_i, learn, heard, rewrite, suffices, frame, group, enter, of_opd}
use Rattle.macs_c.proofs.Steps.{load, init, stop, fld, first, blocks, exec, assigns, assigns_last, returns, unit_lit}
use Rattle.macs_c.proofs.Steps.{true_lit, alloc_all, pass_all, free_all, look_at, get, through, sets, env, after}
use Rattle.macs_c.proofs.Steps.{look_in, sub, whole, shows, MutRef, mut_vals, mut_Tells, plain, nothing, opens, closes}
use Rattle.macs_c.proofs.Steps.{peeks, Stays, walk_of, says, stay_ref, stay_dropped, Goes-ref, ends_at, cell_at, Ptr}
use Rattle.macs_c.proofs.Steps.{lies_at, room_at, part_at, in_a_block, part_in}
use types.Part.{store_in}
use Rattle.macs_c.specs.Held.{held}
use Rattle.macs_c.proofs.Held.{held_none}
use Rattle.macs_c.proofs.Handles.{word, one_val, fields_in}
use Rattle.macs_c.specs.contracts.handle.MacsEndpoint.put as f
use Rattle.macs_c.proofs.handle.MacsEndpoint.put.Statement.{statement}
use Rattle.macs_c.proofs.handle.MacsEndpoint.put.Code as code
use Rattle.macs_c.specs.contracts.handle.MacsEndpoint.{the_row as HR}
use Rattle.macs_c.specs.contracts.slot.Slot.{the_row as R}
use Rattle.macs_c.proofs.handle.MacsEndpoint.TheLaws.{lowers}
use Rattle.std.proofs.raw_atomic.Walks.{proved_at}
use prog.Wp.{WpFn}
use types.Kit.{prop, regoal}
use Rattle.std.proofs.alloc.Calls.{Goes-blank}
use Rattle.macs_c.proofs.slot.Slot.TheLaws.{the_row_laws}

abbrev stayed : Stays f.ended.signature.params f.ended.kept
stayed = (stay_ref (0 ∷ []) tt (plain (λ _. HR)), (stay_dropped (plain (λ _. R)) f.ended.kept.1.0, tt))

pub put_spec : {M : Type 1} → statement M
put_spec 𝓤 𝓛 𝓜 𝓡 wired =
    let c = f.clauses 𝓛 𝓜.mem 𝓡.returns in let W = walk_of 𝓛 f.ended stayed c in let 𝓣 = tables 𝓤 𝓛.H 𝓜 𝓡 𝓡.env in
    proved_at 𝓛 f.ended stayed c 𝓜 𝓡
    (Goes-ref 𝓛 1 0 tt (plain (λ _. HR)), (Goes-blank 𝓛 1 (plain (λ _. R)) f.ended.kept.1.0 (λ κs x w. tt), tt))
    f.Key.name code.function (code.unfolded 𝓤 𝓛.H 𝓜 𝓡 wired) (λ y are.
    let κ = y.0.0.0 in let q = y.0.1.0 in let self = y.0.3.0 in let x = y.0.3.1.0 in let vss = y.0.4 in
    let rb = self.ref_ptr.0 in let ro = self.ref_ptr.1 in let h = self.now in
    let one = one_val (denote.Memory.lone R.mir) vss.1.0 ((the_row_laws.lawful 𝓛).typed x vss.1.0 are.1.0) in
    let v = one.0 in
    let told : vss.0 ≡ mut_vals self = mut_Tells (named 0) κ HR self vss.0 are.0 in
    qed 𝓛 (((‵ (flft κ q) ⊛ ‵ ftrue) ⊛ ‵ ((MutRef (named 0) κ HR).own_val self vss.0) ⊛ ‵ (R.own_val x vss.1.0) ⊛ ‵
    ftrue) ∷ raw (fact 𝓤 (h.value ≡ None)) ∷ []) ∵
    move ! (1 ∷ []) $ heard ! _ (λ none. split ! $ split ! $ move ! (2 ∷ []) $ split ! $ move ! (1 ∷ []) $ split ! $
    -- [what x owns; nothing; the reference; the token; nothing]
    rewrite ! 0 (λ (ws : List Val). ‵ (R.own_val x ws)) one.1 refl $
    keep ! (2 ∷ 3 ∷ 0 ∷ []) $
    regoal ! (λ (us : List Val). prop (WpFn 𝓤 𝓛.H 𝓣.C 𝓣.Λ code.function us (W.post y)))
    (λ i. told i ++ (one.1 i ++ [])) refl $
    enter ! _ _ _ _ _ $ alloc_all ! (λ l. pass_all ! refl ((tt, tt), (one.2, tt)) $
    fsplit3 ! $ move ! (1 ∷ 2 ∷ 3 ∷ []) $ opens ! tt HR rb ro (λ us.
    move ! (1 ∷ []) $ peeks ! HR _ (shows 𝓛 HR) h us (λ is. fsplit ! $ drop ! $
    rewrite ! 0 (λ (m : Option R.Denot). ‵ (held R h.is_open h.at m)) none refl $
    use1 𝓛 (given (h.is_open ≡ false) (‵ (room_at R h.at))) (held_none 𝓛 R h.is_open h.at) $ learn ! (λ flag.
    in_a_block ! h.at (λ p. room_at R p) (id⊢ 𝓤 _) (λ b o e.
    let Cell = λ (ws : List Val). ‵ (cell_at full_share HR.mir ws rb ro) in
    rewrite ! 1 Cell (lowers.val_is h us is ∙ ap (λ (p : Ptr). word p h.is_open ∷ []) e) refl $
    first ! $ blocks ! $
    sets ! (of_opd ! (load ! (through ! refl (fld ! refl (stop !))) (look_in ! 1 (sub ! 0 refl (whole !)))))
    refl (tt, tt) $
    sets ! (of_opd ! (get ! refl)) refl (tt, tt) $
    assigns_last ! (of_opd ! (get ! refl)) (through ! refl (stop !)) (init ! 0 refl one.2) $
    exec ! 𝓣.C 𝓣.Λ (env code.Mir.locals l) (after 1 (code.function).body) (at_ret _ (W.post y)) $
    assigns ! (of_opd ! (true_lit !)) (through ! refl (fld ! refl (stop !)))
    (store_in ! 1 (sub ! 1 refl (whole !)) (tt, tt)) $
    sets ! (of_opd ! (unit_lit !)) refl (tt, tt) $
    -- [the value's cell; the handle's cell; the open borrow in three; what x owns; the locals]
    rewrite ! 1 Cell (ap (λ (p : Ptr). word p true ∷ []) (sym e)) refl $
    move ! (0 ∷ 6 ∷ []) $ use2 𝓛 (‵ (part_at R full_share x b o)) (part_in 𝓛 R refl full_share x b o v) $
    rewrite ! 0 (λ (p : Ptr). ‵ (lies_at R full_share p x)) (sym e) refl $
    let h' = record h { is_open = true; value = Some x } in
    fields_in ! h.at true $ fjoin ! $ move ! (1 ∷ []) $ closes ! tt HR h' (word h.at true ∷ []) rb ro $
    returns ! (look_at ! 0 refl) $ free_all ! refl $ move ! (3 ∷ []) $
    suffices ! _ (ends_at 𝓛 f.ended stayed c y vunit tt (h', (_, tt)) (tt, (tt, tt))) $ says ! refl $
    group ! 3 $ nothing ! $ nothing ! $ join ! $ move ! (1 ∷ 0 ∷ []) $ join ! $ nothing ! $ move ! (2 ∷ 0 ∷ []) $ join !
    $ frame ! $ frame ! $
    feq_i ! _ (vunit ∷ []) _ refl $ done !)))))))

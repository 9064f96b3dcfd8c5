-- `null` is the null pointer, where nothing is. Assumes `Logic`.
use Rattle.std.proofs.Common.{◌≡◌, List, [], ◌∷◌, ◌++◌, None, sym, refl, subst, lit<}
use mir.Syntax.{Fn}
use mir.Val.{Val, has_ty}
use base.Logic.{SProp, ent, emp, id⊢}
use base.Fml.{ftrue}
use prog.Wp.{WpFn}
use types.Kit.{‵, raw, ◌⊛◌, ◌$◌, ◌∵◌, !, qed, by, move, drop, split, fsplit, fjoin, suffices, rewrite, use0}
use types.Run.{lit, no_more, and_then, returns, enter}
use types.ByLocal.{alloc_all, pass_all, free_all, look_at, get, sets}
use types.Part.{agg}
use contract.Monad.{fact, fact_i}
use contract.Running.{tables}
use denote.RattleType.{owns}
use denote.Exit.{rest, yes}
use denote.RawPtr.{null_ptr, ptr_val}
use denote.Signature.{types_at, plain}
use denote.Steps.{nothing}
use denote.Param.{layout}
use denote.Triple.Entry.{alive}
use denote.Triple.Walked.{Stays, stay_dropped, walk_of}
use Rattle.std.proofs.alloc.Calls.{Goes-blank}
use Rattle.std.proofs.cell.Inside.{Good, one}
use Rattle.std.proofs.ResultValues.{and_tt}
use Rattle.std.proofs.raw_atomic.Walks.{proved_at, leaves}
use Rattle.durskeyl_c.proofs.LooseValues.{both}
use Rattle.durskeyl_c.proofs.KeptValues.{Z, L, Place, place_null}
use Rattle.durskeyl_c.specs.contracts.kept.KeptPlace.null.{ended, clauses}
use Rattle.durskeyl_c.specs.contracts.kept.KeptPlace.null.Key.{name as #self}
use Rattle.durskeyl_c.proofs.kept.KeptPlace.null.Statement.{statement}
use Rattle.durskeyl_c.proofs.kept.KeptPlace.null.Code as compiled

pub null_spec : {M : Type 1} → statement M
null_spec 𝓤 𝓛 𝓜 𝓡 wired =
    let H = 𝓛.H in let 𝓣 = tables 𝓤 H 𝓜 𝓡 𝓡.env in let c = clauses 𝓛 𝓜.mem 𝓡.returns in let fn : Fn = compiled.function in
    let hs : Stays ended.signature.params ended.kept = (stay_dropped (plain (λ _. Z)) ended.kept.0, tt) in
    proved_at 𝓛 ended hs c 𝓜 𝓡 (Goes-blank 𝓛 0 (plain (λ _. Z)) ended.kept.0 (λ κs x f. tt), tt) #self fn (compiled.unfolded 𝓤 H 𝓜 𝓡 wired) (λ z are.
    let κs = z.0.0 in let Post : Val → SProp 𝓤 = (walk_of 𝓛 ended hs c).post z in let Run : List Val → SProp 𝓤 = λ ws. WpFn 𝓤 H 𝓣.C 𝓣.Λ fn ws Post in
    let a = z.0.3.0 in let h = one (layout Z) z.0.4.0 ((L.lawful 𝓛).typed a z.0.4.0 are.0) in let w : Val = both (ptr_val null_ptr) h.0 in
    let r : Place.Denot = record { at = null_ptr; alloc = a; value = None } in
    let good : Good (layout Place) w = (and_tt (has_ty (layout Z) h.0) h.2.0, (record { fits = lit< tt }, (h.2.1, tt))) in
    qed 𝓛 ((raw (alive 𝓛 ended.signature κs z.0.1) ⊛ ‵ (owns (types_at ended.signature.params κs) z.0.3 z.0.4)) ∷ ‵ ftrue ∷ []) ∵ move ! (1 ∷ []) $ drop ! $ split ! $ move ! (1 ∷ []) $
    fsplit ! $ move ! (1 ∷ []) $ drop ! $ rewrite ! 0 (λ (us : List Val). ‵ (Z.own_val a us)) h.1 refl $
    suffices ! (Run (h.0 ∷ [])) (subst (λ (us : List Val). ent 𝓤 (Run (h.0 ∷ [])) (Run us)) (sym (λ i. h.1 i ++ [])) (id⊢ 𝓤 (Run (h.0 ∷ [])))) $
    enter ! 𝓣.C 𝓣.Λ fn (h.0 ∷ []) Post $ alloc_all ! (λ l. pass_all ! refl (h.2, tt) $
    sets ! (agg ! (and_then ! (lit ! tt) (and_then ! (get ! refl) (no_more !)))) refl good $
    returns ! (look_at ! 0 refl) $ free_all ! refl $ place_null ! h.0 a $
    use0 𝓛 (raw (fact 𝓤 (r.value ≡ None))) (fact_i 𝓤 (r.value ≡ None) (emp 𝓤) refl) $ nothing ! $ nothing ! $ fjoin ! $ move ! (3 ∷ 0 ∷ 2 ∷ 1 ∷ []) $
    by ! (leaves 𝓛 ended hs c z w r (rest (Z.exit yes) a, tt) (tt, tt))))

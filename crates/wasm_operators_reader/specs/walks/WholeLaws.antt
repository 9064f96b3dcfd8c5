-- What a visitor is told on the way to the end is the walk of an expression, and every such expression is.
use Rattle.std.proofs.Common.{◌≡◌, ◌<◌, ◌≤◌, ℕ, length, inl, inr, List, [], ◌∷◌, ◌++◌, refl, sym, ap, subst, arith}
use Rattle.wasm_types.specs.decoding.Decoder.{State}
use Rattle.wasm_types.specs.decoding.declared.error.ErrorKind.TheVariants.{Other}
use Rattle.wasm_types.specs.decoding.ErrorValue.{ErrorValue}
use Rattle.wasm_types.specs.reader.Reading.{IsNotMemory}
use Rattle.wasm_operators_enums.specs.Op.{Op}
use Rattle.wasm_operators_encoding.specs.expressions.Code.{Code, walk}
use Rattle.wasm_operators_encoding.specs.expressions.Spelling.{SpelledExpression}
use Rattle.wasm_operators_encoding.specs.expressions.Stack.{innermost}
use Rattle.wasm_operators_reader.specs.FirstByte.{ToldFirst, refused_in}
use Rattle.wasm_operators_reader.specs.FirstByteLaws.{told_content}
use Rattle.wasm_operators_reader.specs.Standing.{Standing, at_start, IsFinished, Reads, Runs, Refuses, WantsMemory}
use Rattle.wasm_operators_reader.specs.StandingLaws.{reads_fewer}
use Rattle.wasm_operators_reader.specs.RunLaws.{run_more, run_expression, refused_run, ended_run}
use Rattle.wasm_operators_reader.specs.Visiting.{Visits}
use Rattle.wasm_operators_reader.specs.Walking.{VisitsAll, WalksTo, WalksUntilTo}
use Rattle.wasm_operators_reader.specs.walks.Whole.{TellsTo, TellsUntilAt, RefusesFirst, Stops}

runs_both : (os ps : List Op) (s t u : Standing) → Runs s os t → Runs t ps u → Runs s (os ++ ps) u
runs_both [] ps s t u e h = subst (λ (m : Standing). Runs m ps u) e h
runs_both (o ∷ os) ps s t u (m, r, more) h = (m, r, runs_both os ps m t u more h)

fewer_behind : (os : List Op) (s t : Standing) → Runs s os t → length t.bytes.rest ≤ length s.bytes.rest
fewer_behind [] s t e = omega (arith, ap (λ (m : Standing). length m.bytes.rest) e)
fewer_behind (o ∷ os) s t (m, r, more) = omega (arith, reads_fewer s o m r, fewer_behind os m t more)

module _ {V A : Type 0} (visits : V → Op → A → V → Type 0) (answer : A) where
  visits_more : (os : List Op) (v w x : V) (o : Op) → VisitsAll visits answer v os w → visits w o answer x → VisitsAll visits answer v (os ++ o ∷ []) x
  visits_more [] v w x o e h = (x, subst (λ (z : V). visits z o answer x) e h, refl)
  visits_more (p ∷ os) v w x o (m, h, more) g = (m, h, visits_more os m w x o more g)

  visits_both : (os ps : List Op) (v w x : V) → VisitsAll visits answer v os w → VisitsAll visits answer w ps x → VisitsAll visits answer v (os ++ ps) x
  visits_both [] ps v w x e h = subst (λ (m : V). VisitsAll visits answer m ps x) e h
  visits_both (o ∷ os) ps v w x (m, one, more) h = (m, one, visits_both os ps m w x more h)

  -- nothing was told yet
  pub tells_none : (s : Standing) (v : V) → TellsTo visits answer s v s v
  tells_none s v = ([], refl, refl)

  -- what was told without vectors was told
  pub tells_walk : (s t : Standing) (v w : V) → WalksTo visits answer s v t w → TellsTo visits answer s v t w
  tells_walk s t v w (os, run, none, all) = (os, run, all)

  pub tells_both : (s t u : Standing) (v w x : V) → TellsTo visits answer s v t w → TellsTo visits answer t w u x → TellsTo visits answer s v u x
  tells_both s t u v w x (os, run, all) (ps, more, rest) = (os ++ ps, runs_both os ps s t u run more, visits_both os ps v w x all rest)

  -- one operator more
  pub tells_on : (s t u : Standing) (v w x : V) → TellsTo visits answer s v t w → Visits visits t w answer u x → TellsTo visits answer s v u x
  tells_on s t u v w x (os, run, all) (o, r, h) = (os ++ o ∷ [], run_more os s t u o run r, visits_more os v w x o all h)

  -- the last operator of a run without vectors
  pub tells_until : (s t u : Standing) (v w x : V) (last : A) (place : ℕ) → TellsTo visits answer s v t w → WalksUntilTo visits answer t w last u x place
      → TellsUntilAt visits answer s v last x place
  tells_until s t u v w x last place before (m, n, walked, (o, read, plain, told), at) =
      (m, n, tells_both s t m v w n before (tells_walk t m w n walked), o, u, read, told, at)

  -- no more bytes are left
  pub tells_fewer : (s t : Standing) (v w : V) → WalksTo visits answer s v t w → length t.bytes.rest ≤ length s.bytes.rest
  tells_fewer s t v w (os, run, none, all) = fewer_behind os s t run

  -- a visitor was told of the walk of an expression, all of it
  abbrev pub TellsExpression : State → V → V → Type 0
  TellsExpression s v w = (c : Code) × SpelledExpression s.settings c s.rest × VisitsAll visits answer v (walk c) w

  pub tells_whole : (s : State) (t : Standing) (v w : V) → TellsTo visits answer (at_start s) v t w → IsFinished t → TellsExpression s v w
  tells_whole s t v w (os, run, all) f =
      let found = run_expression s os t run f in
      (found.0, found.2, subst (λ (ps : List Op). VisitsAll visits answer v ps w) (sym found.1) all)

  -- where it stops before the end, the bytes spell no expression
  pub stop_denies : (s : State) (t : Standing) (v w : V) (e : ErrorValue) → TellsTo visits answer (at_start s) v t w → IsNotMemory e.kind → (c : Code)
      → SpelledExpression s.settings c s.rest → Stops t e → ⊥
  stop_denies s t v w e told n c h (inl (more, (f, r, first), memory)) =
      refused_run s told.0 t told.1 (λ f. more f.bytes) c h f r (told_content (refused_in (innermost t.frames) t.bytes) t.bytes.place f e first n)
  stop_denies s t v w e told n c h (inr (ended, open_still, kind, place)) = ended_run s told.0 t told.1 (λ f. open_still f.frames) c h ended

  -- a refused read leaves all as it was
  pub tells_stop : (s t u : Standing) (v w x : V) (f e : ErrorValue) → TellsTo visits answer s v t w → (t.bytes.rest ≡ [] → ⊥) → Refuses t f
      → ((WantsMemory t → ⊥) → IsNotMemory f.kind) → u ≡ t → x ≡ w → ToldFirst (refused_in (innermost u.frames) u.bytes) u.bytes.place f e
      → (IsNotMemory f.kind → IsNotMemory e.kind) → TellsTo visits answer s v u x × Stops u e
  tells_stop s t u v w x f e told more r memory same kept first content = (
    subst (λ (y : V). TellsTo visits answer s v u y) (sym kept) (subst (λ (z : Standing). TellsTo visits answer s v z w) (sym same) told),
    let at : RefusesFirst t e = (f, r, subst (λ (z : Standing). ToldFirst (refused_in (innermost z.frames) z.bytes) z.bytes.place f e) same first) in
        subst (λ (z : Standing). Stops z e) (sym same) (inl (more, at, λ none. content (memory none))),
  )

  pub answered : (t u : Standing) (w x : V) (a b : A) → a ≡ b → Visits visits t w a u x → Visits visits t w b u x
  answered t u w x a b e h = subst (λ (c : A). Visits visits t w c u x) e h

-- a visit goes on
pub visit_fewer : {V A : Type 0} (visits : V → Op → A → V → Type 0) (t u : Standing) (w x : V) (last : A) → Visits visits t w last u x → length u.bytes.rest < length t.bytes.rest
visit_fewer visits t u w x last (o, r, h) = reads_fewer t o u r

-- at the end of the bytes with a frame open
pub cut_short : (t : Standing) (e : ErrorValue) → t.bytes.rest ≡ [] → (IsFinished t → ⊥) → e.kind ≡ Other → e.offset ≡ t.bytes.place → Stops t e
cut_short t e ended unfinished kind place = inr (ended, λ f. unfinished (record { frames = f; bytes = ended }), kind, place)

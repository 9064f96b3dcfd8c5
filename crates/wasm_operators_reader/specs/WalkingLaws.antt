-- What a visitor is told on the way to the end is the walk of an expression without vectors, and every such expression is.
use Rattle.std.proofs.Common.{◌≡◌, ◌<◌, ◌≤◌, ℕ, Bool, length, inl, inr, true, false, List, [], ◌∷◌, ◌++◌, refl, sym, ◌∙◌, ap, subst, arith}
use Rattle.std.specs.Prelude.{◌==◌}
use Rattle.std.proofs.lemmas.Bool.{eqb-true}
use Rattle.wasm_types.specs.decoding.Decoder.{State}
use Rattle.wasm_types.specs.decoding.declared.error.ErrorKind.TheVariants.{Other}
use Rattle.wasm_types.specs.decoding.ErrorValue.{ErrorValue}
use Rattle.wasm_types.specs.reader.Reading.{IsNotMemory}
use Rattle.wasm_operators_enums.specs.Op.{Op}
use Rattle.wasm_operators_enums.specs.Vectors.{is_simd}
use Rattle.wasm_operators_encoding.specs.expressions.Code.{Code, walk}
use Rattle.wasm_operators_encoding.specs.expressions.Spelling.{SpelledExpression}
use Rattle.wasm_operators_reader.specs.Standing.{Standing, at_start, IsFinished, Reads, Runs, WantsMemory}
use Rattle.wasm_operators_encoding.specs.expressions.Stack.{innermost}
use Rattle.wasm_operators_reader.specs.FirstByte.{vector_in}
use Rattle.wasm_operators_reader.specs.FirstByteLaws.{told_content}
use Rattle.wasm_operators_reader.specs.Visiting.{VisitsPlain, RefusesVector, RefusesPlain}
use Rattle.wasm_operators_reader.specs.StandingLaws.{reads_fewer}
use Rattle.wasm_operators_reader.specs.RunLaws.{run_more, run_expression, expression_run, refused_run, ended_run}
use Rattle.wasm_operators_reader.specs.MeetLaws.{meets_end}
use Rattle.wasm_operators_reader.specs.Walking.{HasNoVectors, VisitsAll, WalksTo, WalksUntil, WalksUntilAt, WalksUntilTo, StopsPlain}

none_more : (os : List Op) (o : Op) → HasNoVectors os → is_simd o ≡ false → HasNoVectors (os ++ o ∷ [])
none_more [] o h e = (e, tt)
none_more (p ∷ os) o (f, h) e = (f, none_more os o h e)

none_among : (os more : List Op) (o : Op) → HasNoVectors (os ++ o ∷ more) → is_simd o ≡ false
none_among [] more o h = h.0
none_among (p ∷ os) more o h = none_among os more o h.1

module _ {V A : Type 0} (visits : V → Op → A → V → Type 0) (answer : A) where
  visits_more : (os : List Op) (v w x : V) (o : Op) → VisitsAll visits answer v os w → visits w o answer x → VisitsAll visits answer v (os ++ o ∷ []) x
  visits_more [] v w x o e h = (x, subst (λ (z : V). visits z o answer x) e h, refl)
  visits_more (p ∷ os) v w x o (m, h, more) g = (m, h, visits_more os m w x o more g)

  -- nothing was visited yet
  pub walk_none : (s : Standing) (v : V) → WalksTo visits answer s v s v
  walk_none s v = ([], refl, tt, refl)

  -- one operator more
  pub walk_more : (s t u : Standing) (v w x : V) (o : Op) → WalksTo visits answer s v t w → Reads t o u → is_simd o ≡ false → visits w o answer x → WalksTo visits answer s v u x
  walk_more s t u v w x o (os, run, none, told) r e h = (os ++ o ∷ [], run_more os s t u o run r, none_more os o none e, visits_more os v w x o told h)

  -- a visitor was told of the walk of an expression without vectors, all of it
  abbrev pub WalksExpression : State → V → V → Type 0
  WalksExpression s v w = (c : Code) × SpelledExpression s.settings c s.rest × HasNoVectors (walk c) × VisitsAll visits answer v (walk c) w

  pub walk_whole : (s : State) (t : Standing) (v w : V) → WalksTo visits answer (at_start s) v t w → IsFinished t → WalksExpression s v w
  walk_whole s t v w (os, run, none, told) f =
      let found = run_expression s os t run f in
      (found.0, found.2, subst HasNoVectors (sym found.1) none, subst (λ (ps : List Op). VisitsAll visits answer v ps w) (sym found.1) told)

  module _ (s : State) (t : Standing) (v w : V) (told : WalksTo visits answer (at_start s) v t w) (e : ErrorValue)
      (n : IsNotMemory e.kind) (c : Code) (h : SpelledExpression s.settings c s.rest) (none : HasNoVectors (walk c)) where
    vector_denies : RefusesVector t e → ⊥
    vector_denies r =
        let whole = expression_run s c h in
        let met = meets_end told.0 (walk c) (at_start s) t whole.0 r.behind r.op told.1 r.read whole.1 whole.2.frames in
        let no : is_simd r.op ≡ false = none_among told.0 met.0 r.op (subst HasNoVectors met.1 none) in
        absurd cc

    -- where a walk stops before the end, the bytes spell no expression without vectors
    pub stop_denies : StopsPlain t e → ⊥
    stop_denies (inl (more, inl (f, r, first), memory)) =
        refused_run s told.0 t told.1 (λ f. more f.bytes) c h f r (told_content (vector_in (innermost t.frames) t.bytes) t.bytes.place f e first n)
    stop_denies (inl (more, inr r, memory)) = vector_denies r
    stop_denies (inr (ended, open_still, kind, place)) = ended_run s told.0 t told.1 (λ f. open_still f.frames) c h ended

-- ---- of a reader's visit

module _ {V A : Type 0} (visits : V → Op → A → V → Type 0) (answer : A) (s t u : Standing) (v w x : V) (told : WalksTo visits answer s v t w) where
  -- an operator that is answered alike goes on
  pub walk_on : VisitsPlain visits t w answer u x → WalksTo visits answer s v u x
  walk_on (o, r, e, h) = walk_more visits answer s t u v w x o told r e h

  -- one that is answered otherwise is the last
  pub walk_until : (last : A) → VisitsPlain visits t w last u x → WalksUntil visits answer s v last x
  walk_until last (o, r, e, h) = (t, w, told, o, u, r, e, h)

-- ---- one walk behind another

none_both : (os ps : List Op) → HasNoVectors os → HasNoVectors ps → HasNoVectors (os ++ ps)
none_both [] ps h g = g
none_both (o ∷ os) ps (e, h) g = (e, none_both os ps h g)

runs_both : (os ps : List Op) (s t u : Standing) → Runs s os t → Runs t ps u → Runs s (os ++ ps) u
runs_both [] ps s t u e h = subst (λ (m : Standing). Runs m ps u) e h
runs_both (o ∷ os) ps s t u (m, r, more) h = (m, r, runs_both os ps m t u more h)

fewer_behind : (os : List Op) (s t : Standing) → Runs s os t → length t.bytes.rest ≤ length s.bytes.rest
fewer_behind [] s t e = omega (arith, ap (λ (m : Standing). length m.bytes.rest) e)
fewer_behind (o ∷ os) s t (m, r, more) = omega (arith, reads_fewer s o m r, fewer_behind os m t more)

module _ {V A : Type 0} (visits : V → Op → A → V → Type 0) (answer : A) where
  visits_both : (os ps : List Op) (v w x : V) → VisitsAll visits answer v os w → VisitsAll visits answer w ps x → VisitsAll visits answer v (os ++ ps) x
  visits_both [] ps v w x e h = subst (λ (m : V). VisitsAll visits answer m ps x) e h
  visits_both (o ∷ os) ps v w x (m, one, more) h = (m, one, visits_both os ps m w x more h)

  pub walk_both : (s t u : Standing) (v w x : V) → WalksTo visits answer s v t w → WalksTo visits answer t w u x → WalksTo visits answer s v u x
  walk_both s t u v w x (os, run, none, all) (ps, more, plain, rest) =
      (os ++ ps, runs_both os ps s t u run more, none_both os ps none plain, visits_both os ps v w x all rest)

  pub until_both : (s t : Standing) (v w x : V) (last : A) (place : ℕ) → WalksTo visits answer s v t w → WalksUntilAt visits answer t w last x place → WalksUntilAt visits answer s v last x place
  until_both s t v w x last place before (m, n, walked, o, u, read, plain, told, at) = (m, n, walk_both s t m v w n before walked, o, u, read, plain, told, at)

  -- without where it stands then
  pub until_at : (s t : Standing) (v w : V) (last : A) (place : ℕ) → WalksUntilTo visits answer s v last t w place → WalksUntilAt visits answer s v last w place
  until_at s t v w last place (m, n, walked, (o, read, plain, told), at) = (m, n, walked, o, t, read, plain, told, at)

  -- no more bytes are left behind a walk
  pub walk_fewer : (s t : Standing) (v w : V) → WalksTo visits answer s v t w → length t.bytes.rest ≤ length s.bytes.rest
  walk_fewer s t v w (os, run, none, all) = fewer_behind os s t run

-- without the offset
pub until_somewhere : {V A : Type 0} (visits : V → Op → A → V → Type 0) (answer : A) (s : Standing) (v w : V) (last : A) (place : ℕ) → WalksUntilAt visits answer s v last w place → WalksUntil visits answer s v last w
until_somewhere visits answer s v w last place (m, n, told, o, t, r, e, h, at) = (m, n, told, o, t, r, e, h)

-- a visit goes on
pub visit_fewer : {V A : Type 0} (visits : V → Op → A → V → Type 0) (t u : Standing) (w x : V) (last : A) → VisitsPlain visits t w last u x → length u.bytes.rest < length t.bytes.rest
visit_fewer visits t u w x last (o, r, e, h) = reads_fewer t o u r

-- ---- at the end of the bytes or before it

pub some_rest : (b : Bool) (xs : List ℕ) → b ≡ false → b ≡ (length xs == 0) → xs ≡ [] → ⊥
some_rest b xs f e g = let no : false ≡ true = sym f ∙ e ∙ ap (λ (ys : List ℕ). length ys == 0) g in absurd cc

pub none_rest : (b : Bool) (xs : List ℕ) → b ≡ true → b ≡ (length xs == 0) → xs ≡ []
none_rest b [] t e = refl
none_rest b (x ∷ xs) t e = absurd (omega (arith, eqb-true (length (x ∷ xs)) 0 (sym e ∙ t)))

module _ {V A : Type 0} (visits : V → Op → A → V → Type 0) (answer : A) (s : Standing) (v : V) where
  -- what leaves all as it was visits nothing
  pub walk_same : (t u : Standing) (w x : V) → u ≡ t → x ≡ w → WalksTo visits answer s v t w → WalksTo visits answer s v u x
  walk_same t u w x same kept told = subst (λ (y : V). WalksTo visits answer s v u y) (sym kept) (subst (λ (z : Standing). WalksTo visits answer s v z w) (sym same) told)

  -- a refused visit leaves all as it was
  pub walk_stops : (t u : Standing) (w x : V) (e : ErrorValue) → WalksTo visits answer s v t w → (t.bytes.rest ≡ [] → ⊥) → RefusesPlain t e
      → ((WantsMemory t → ⊥) → IsNotMemory e.kind) → u ≡ t → x ≡ w → WalksTo visits answer s v u x × StopsPlain u e
  walk_stops t u w x e told more r memory same kept = (walk_same t u w x same kept told, subst (λ (z : Standing). StopsPlain z e) (sym same) (inl (more, r, memory)))

  pub answered : (t u : Standing) (w x : V) (a b : A) → a ≡ b → VisitsPlain visits t w a u x → VisitsPlain visits t w b u x
  answered t u w x a b e h = subst (λ (c : A). VisitsPlain visits t w c u x) e h

-- at the end of the bytes with a frame open
pub cut_short : (t : Standing) (e : ErrorValue) → t.bytes.rest ≡ [] → (IsFinished t → ⊥) → e.kind ≡ Other → e.offset ≡ t.bytes.place → StopsPlain t e
cut_short t e ended unfinished kind place = inr (ended, λ f. unfinished (record { frames = f; bytes = ended }), kind, place)

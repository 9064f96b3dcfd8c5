-- A visitor that is lent: what is told on the way is told to the visitor, which stays the one that is lent.
use Rattle.std.proofs.Common.{◌≡◌, ◌∙◌, ℕ, List, [], ◌∷◌, Result, Ok, Err, ap}
use Rattle.std.specs.Prelude.{IfOk, IfErr}
use Rattle.wasm_types.specs.decoding.ErrorValue.{ErrorValue}
use Rattle.wasm_operators_enums.specs.Op.{Op}
use Rattle.wasm_operators_encoding.specs.expressions.Code.{Code, walk}
use Rattle.wasm_operators_reader.specs.Standing.{Standing}
use Rattle.wasm_operators_reader.specs.Walking.{VisitsAll, WalksTo, WalksUntilAt, StopsPlain}

module _ {V W A : Type 0} (visits : V → Op → A → V → Type 0) (told : W → Op → A → W → Type 0) (seen : W → V) (name : W → ℕ)
    (each : (v : W) (o : Op) (a : A) (w : W) → told v o a w → visits (seen v) o a (seen w) × (name w ≡ name v)) (answer : A) where
  all_lent : (os : List Op) (v w : W) → VisitsAll told answer v os w → VisitsAll visits answer (seen v) os (seen w) × (name w ≡ name v)
  all_lent [] v w e = (ap seen e, ap name e)
  all_lent (o ∷ os) v w (m, h, more) =
      let one = each v o answer m h in
      let rest = all_lent os m w more in
      ((seen m, one.0, rest.0), rest.1 ∙ one.1)

  walk_lent : (s t : Standing) (v w : W) → WalksTo told answer s v t w → WalksTo visits answer s (seen v) t (seen w) × (name w ≡ name v)
  walk_lent s t v w (os, run, none, all) = let h = all_lent os v w all in ((os, run, none, h.0), h.1)

  until_lent : (s : Standing) (v w : W) (last : A) (place : ℕ) → WalksUntilAt told answer s v last w place → WalksUntilAt visits answer s (seen v) last (seen w) place × (name w ≡ name v)
  until_lent s v w last place (m, n, walked, o, t, read, plain, h, at) =
      let before = walk_lent s m v n walked in
      let one = each n o last w h in
      ((m, seen n, before.0, o, t, read, plain, one.0, at), one.1 ∙ before.1)

-- the same, clause by clause, of what a walk answers
module _ {V W X : Type 0} (v w : W) (s : Standing) (S N : Code → Type 0) (r : Result (Result (Unit {0}) (X × ℕ)) ErrorValue)
    (visits : V → Op → Result (Unit {0}) X → V → Type 0) (told : W → Op → Result (Unit {0}) X → W → Type 0) (seen : W → V) (name : W → ℕ)
    (each : (x : W) (o : Op) (a : Result (Unit {0}) X) (y : W) → told x o a y → visits (seen x) o a (seen y) × (name y ≡ name x)) where
  abbrev Whole : {Z : Type 0} → (Z → Op → Result (Unit {0}) X → Z → Type 0) → Z → Z → Result (Result (Unit {0}) (X × ℕ)) ErrorValue → Type 0
  Whole visited x y q = IfOk q (λ end. IfOk end (λ _. (c : Code) × S c × N c × VisitsAll visited (Ok tt) x (walk c) y))

  abbrev Ended : {Z : Type 0} → (Z → Op → Result (Unit {0}) X → Z → Type 0) → Z → Z → Result (Result (Unit {0}) (X × ℕ)) ErrorValue → Type 0
  Ended visited x y q = IfOk q (λ end. IfErr end (λ last. WalksUntilAt visited (Ok tt) s x (Err last.0) y last.1))

  abbrev Stopped : {Z : Type 0} → (Z → Op → Result (Unit {0}) X → Z → Type 0) → Z → Z → Result (Result (Unit {0}) (X × ℕ)) ErrorValue → Type 0
  Stopped visited x y q = IfErr q (λ e. (t : Standing) × WalksTo visited (Ok tt) s x t y × StopsPlain t e)

  whole_of : (q : Result (Result (Unit {0}) (X × ℕ)) ErrorValue) → Whole told v w q → Whole visits (seen v) (seen w) q
  whole_of (Ok (Ok u)) (c, h, none, all) = (c, h, none, (all_lent visits told seen name each (Ok tt) (walk c) v w all).0)
  whole_of (Ok (Err x)) h = h
  whole_of (Err e) h = h

  ended_of : (q : Result (Result (Unit {0}) (X × ℕ)) ErrorValue) → Ended told v w q → Ended visits (seen v) (seen w) q
  ended_of (Ok (Ok u)) h = h
  ended_of (Ok (Err x)) h = (until_lent visits told seen name each (Ok tt) s v w (Err x.0) x.1 h).0
  ended_of (Err e) h = h

  stopped_of : (q : Result (Result (Unit {0}) (X × ℕ)) ErrorValue) → Stopped told v w q → Stopped visits (seen v) (seen w) q
  stopped_of (Ok end) h = h
  stopped_of (Err e) (t, walked, stops) = (t, (walk_lent visits told seen name each (Ok tt) s t v w walked).0, stops)

  stays_of : (q : Result (Result (Unit {0}) (X × ℕ)) ErrorValue) → Whole told v w q → Ended told v w q → Stopped told v w q → name w ≡ name v
  stays_of (Ok (Ok u)) (c, h, none, all) ended stopped = (all_lent visits told seen name each (Ok tt) (walk c) v w all).1
  stays_of (Ok (Err x)) whole ended stopped = (until_lent visits told seen name each (Ok tt) s v w (Err x.0) x.1 ended).1
  stays_of (Err e) whole ended (t, walked, stops) = (walk_lent visits told seen name each (Ok tt) s t v w walked).1

  pub whole_lent : Whole told v w r → Whole visits (seen v) (seen w) r
  whole_lent = whole_of r

  pub ended_lent : Ended told v w r → Ended visits (seen v) (seen w) r
  ended_lent = ended_of r

  pub stopped_lent : Stopped told v w r → Stopped visits (seen v) (seen w) r
  stopped_lent = stopped_of r

  pub stays_lent : Whole told v w r → Ended told v w r → Stopped told v w r → name w ≡ name v
  stays_lent = stays_of r

-- What is shown at each place of a derivation, by the path that leads to it.
use Rattle.std.proofs.Common.{◌≡◌, ◌∙◌, List, Option, Some, None, refl, sym, ap, subst}
use Rattle.wasm_operators_encoding.specs.expressions.Code.{Code, close, plain, nested, turn}
use Rattle.wasm_operator_validator_rules.specs.Operands.{Operand}
use Rattle.wasm_operator_validator_rules.specs.Context.{Context, Initialised, Frame}
use Rattle.wasm_operator_validator_rules.specs.Typed.{Typed}
use Rattle.wasm_operator_validator_state.specs.resources.Meaning.{Meaning}
use Rattle.wasm_operator_validator_state.specs.State.{State}
use Rattle.wasm_operator_validator_soundness.specs.runs.Places.{Path, start, next, within, past, turned, missing, Place, place, place_at, from_place, next_of, within_of, past_of, turned_of}
use Rattle.wasm_operator_validator_soundness.specs.shown.Leading.{Walks}
use Rattle.wasm_operator_validator_soundness.specs.shown.Shown.{Shows, ShownBy, Seen, seen, next_seen, within_seen, past_seen, turned_seen, from_seen, seen_at, IsWritten, ShowsPlace, PlacesAreShown}

module _ (m : Meaning) where
  -- a place, what is known there, and that all from there on is shown
  record Both (l : Place) (d : Option (Seen m)) : Type 0 where
    here : State
    last : State
    walks : Walks m l.code here last
    found : d ≡ seen m l.code here last walks
    shown : ShownBy m l.code here last walks l.context l.frame l.set l.operands l.typed

  -- a step from a place to one within its code
  abbrev Step : Type 0
  Step = (g : Context) (f : Frame) (set : Initialised) (c : Code) (s : List Operand) → Typed g f set c s → Option Place

  abbrev Sight : Type 0
  Sight = (c : Code) (σ τ : State) → Walks m c σ τ → Option (Seen m)

  abbrev Goes : Step → Sight → Type 0
  Goes step sight = (g : Context) (f : Frame) (set : Initialised) (c : Code) (s : List Operand) (t : Typed g f set c s) (σ τ : State) (w : Walks m c σ τ)
      → ShownBy m c σ τ w g f set s t → (l : Place) → step g f set c s t ≡ Some l → Both l (sight c σ τ w)

  -- what is at the same place is shown there
  moved : (k l : Place) (d : Option (Seen m)) → ◌≡◌ {A = Option Place} (Some k) (Some l) → Both k d → Both l d
  moved k l d e b = let h : k ≡ l = cc in subst (λ (x : Place). Both x d) h b

  nowhere : (l : Place) (d : Option (Seen m)) → ◌≡◌ {A = Option Place} None (Some l) → Both l d
  nowhere l d e = cc

  next_goes : Goes next_of (next_seen m)
  next_goes g f set (plain o more) s t σ τ w h l e = moved _ l _ e (record { here = w.0; last = τ; walks = w.2; found = refl; shown = h.1 })
  next_goes g f set (close o) s t σ τ w h l e = nowhere l _ e
  next_goes g f set (nested o body more) s t σ τ w h l e = nowhere l _ e
  next_goes g f set (turn o more) s t σ τ w h l e = nowhere l _ e

  within_goes : Goes within_of (within_seen m)
  within_goes g f set (nested o body more) s t σ τ w h l e = moved _ l _ e (record { here = w.0; last = w.1; walks = w.3; found = refl; shown = h.1 })
  within_goes g f set (close o) s t σ τ w h l e = nowhere l _ e
  within_goes g f set (plain o more) s t σ τ w h l e = nowhere l _ e
  within_goes g f set (turn o more) s t σ τ w h l e = nowhere l _ e

  past_goes : Goes past_of (past_seen m)
  past_goes g f set (nested o body more) s t σ τ w h l e = moved _ l _ e (record { here = w.1; last = τ; walks = w.4; found = refl; shown = h.2 })
  past_goes g f set (close o) s t σ τ w h l e = nowhere l _ e
  past_goes g f set (plain o more) s t σ τ w h l e = nowhere l _ e
  past_goes g f set (turn o more) s t σ τ w h l e = nowhere l _ e

  turned_goes : Goes turned_of (turned_seen m)
  turned_goes g f set (turn o more) s t σ τ w h l e = moved _ l _ e (record { here = w.0; last = τ; walks = w.2; found = refl; shown = h.1 })
  turned_goes g f set (close o) s t σ τ w h l e = nowhere l _ e
  turned_goes g f set (plain o more) s t σ τ w h l e = nowhere l _ e
  turned_goes g f set (nested o body more) s t σ τ w h l e = nowhere l _ e

  -- one step further
  further : (step : Step) (sight : Sight) → Goes step sight → (k : Option Place) (d : Option (Seen m)) → ((j : Place) → k ≡ Some j → Both j d) → (l : Place)
      → from_place step k ≡ Some l → Both l (from_seen m sight d)
  further step sight goes None d at l e = nowhere l _ e
  further step sight goes (Some j) d at l e =
      let b = at j refl in
      subst (λ (x : Option (Seen m)). Both l (from_seen m sight x)) (sym b.found)
      (goes j.context j.frame j.set j.code j.operands j.typed b.here b.last b.walks b.shown l e)

  module _ (c : Code) (σ τ : State) (w : Walks m c σ τ) (g : Context) (f : Frame) (set : Initialised) (s : List Operand) (t : Typed g f set c s)
      (h : ShownBy m c σ τ w g f set s t) where
    at_path : (q : Path) → IsWritten q → (l : Place) → place_at (place g f set c s t) q ≡ Some l → Both l (seen_at m (seen m c σ τ w) q)
    at_path start i l e = moved _ l _ e (record { here = σ; last = τ; walks = w; found = refl; shown = h })
    at_path (next q) i l e = further next_of (next_seen m) next_goes _ _ (at_path q i) l e
    at_path (within q) i l e = further within_of (within_seen m) within_goes _ _ (at_path q i) l e
    at_path (past q) i l e = further past_of (past_seen m) past_goes _ _ (at_path q i) l e
    at_path (turned q) i l e = further turned_of (turned_seen m) turned_goes _ _ (at_path q i) l e
    at_path (missing q) i l e = absurd i

  -- what is shown in all code is shown where it begins
  first_shown : (c : Code) (σ τ : State) (w : Walks m c σ τ) (g : Context) (f : Frame) (set : Initialised) (s : List Operand) (t : Typed g f set c s)
      → ShownBy m c σ τ w g f set s t → Shows m σ g f set s
  first_shown (close o) σ τ w g f set s t h = h
  first_shown (plain o more) σ τ w g f set s t h = h.0
  first_shown (nested o body more) σ τ w g f set s t h = h.0
  first_shown (turn o more) σ τ w g f set s t h = h.0

pub places_are_shown : PlacesAreShown
places_are_shown m c σ τ w g f set s t h q i l e =
    let b = at_path m c σ τ w g f set s t h q i l e in
    record {
      at = record { code = l.code; here = b.here; last = b.last; walks = b.walks };
      found = b.found;
      shows = first_shown m l.code b.here b.last b.walks l.context l.frame l.set l.operands l.typed b.shown;
    }

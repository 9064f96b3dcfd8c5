-- A valid program has derivations of its bodies, and its runs stay at places of them.
use mathlib.Core.Path.{path_j}
use Rattle.std.proofs.Common.{◌≡◌, ℕ, Option, Some, None, refl, slice_get, []}
use Rattle.wasm_types.specs.trees.Trees.{TypeTree}
use Rattle.wasm_operator_validator_soundness.specs.runs.Values.{Body, Program}
use Rattle.wasm_operator_validator_soundness.specs.runs.Soundness.{HasValidBody, IsValidProgram}
use Rattle.wasm_operator_validator_soundness.specs.runs.Places.{body_first, body_inside, body_frame, HasBodyBy, IsValidBy, Place, place, places, DerivationsAreGiven, StaysAtPlaces}
use Rattle.wasm_operator_validator_soundness.proofs.RunsSteps.{stay_valid, begin_valid}

module _ (p : Program) (v : IsValidProgram p) where
  abbrev body_place : (t : TypeTree) (o : Option Body) → HasValidBody p t o → Option Place
  body_place t None b = None
  body_place t (Some f) b = place (body_inside p t b.signature f) (body_frame b.signature f) (body_first b.signature f) f.code [] b.typed.typed

  abbrev function_place : (x : ℕ) (o : Option TypeTree) → slice_get p.«module».functions x ≡ o → Option Place
  function_place x None e = None
  function_place x (Some t) e = let r = v.functions x t e in body_place (r.0).type (r.0).body (r.2).body

  abbrev derivations : ℕ → Option Place
  derivations x = function_place x (slice_get p.«module».functions x) refl

  same_place : (x : ℕ) (o : Option TypeTree) (e : slice_get p.«module».functions x ≡ o) → derivations x ≡ function_place x o e
  same_place x o e = path_j (λ (q : Option TypeTree) (d : slice_get p.«module».functions x ≡ q). derivations x ≡ function_place x q d) refl e

  placed_body : (x : ℕ) (t : TypeTree) (o : Option Body) (b : HasValidBody p t o) → derivations x ≡ body_place t o b → HasBodyBy (places derivations) p t o
  placed_body x t None b e = tt
  placed_body x t (Some f) b e = record {
    signature = b.signature;
    function = b.function;
    locals = b.locals;
    expression = b.typed.expression;
    index = x;
    typed = (b.typed.typed, e);
  }

  placed_valid : IsValidBy (places derivations) p
  placed_valid = record {
    standard = v.standard;
    types = v.types;
    functions = λ x t e. let r = v.functions x t e in (
      r.0,
      r.1,
      record { below = (r.2).below; standard = (r.2).standard; function = (r.2).function; body = placed_body x (r.0).type (r.0).body (r.2).body (same_place x (Some t) e) },
    );
    own = v.own;
    tags = v.tags;
  }

pub derivations_given : DerivationsAreGiven
derivations_given p v = (derivations p v, placed_valid p v)

pub stays_at_places : StaysAtPlaces
stays_at_places D p s results v i answers t r = stay_valid (places D) p results s answers t v (begin_valid (places D) p s results v i) r

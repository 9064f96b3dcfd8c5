-- Which clause catches an exception (WebAssembly 3.0, execution, control instructions, exception handling): the first one, from the innermost
-- label on, that is for its tag or for all. An older `try` that ends in `delegate` has its exceptions go to the label that this names.
use Rattle.std.specs.Prelude.{ℕ, zero, suc, ◌+◌, Bool, true, ◌==◌, List, [], ◌∷◌, ◌++◌, map, get_or, Option, Some, None, option_map, if◌then◌else◌}
use Rattle.wasm_operators_immediates.specs.declared.handlers.Catch.{Catch}
use Rattle.wasm_operators_immediates.specs.declared.handlers.Catch.TheVariants as catch
use Rattle.wasm_operators_enums.specs.Op as op
use Rattle.wasm_operators_encoding.specs.expressions.Code.{Code, close, plain, nested, turn}
use Rattle.wasm_operator_validator_soundness.specs.runs.States.{Handlers, no_handlers, table, clauses, Label, State}
use Rattle.wasm_operator_validator_soundness.specs.runs.Machine.{tag_of}

-- the tag that a clause is for, if not for all
abbrev pub tag_caught : Catch → Option ℕ
tag_caught (catch.One x l) = Some x
tag_caught (catch.OneRef x l) = Some x
tag_caught (catch.All l) = None
tag_caught (catch.AllRef l) = None

abbrev pub tags_turned_to : Code → List (Option ℕ)
tags_turned_to (close o) = []
tags_turned_to (plain o more) = tags_turned_to more
tags_turned_to (nested o body more) = tags_turned_to more
tags_turned_to (turn o more) = tag_of o ∷ tags_turned_to more

abbrev pub tags_handled : Handlers → List (Option ℕ)
tags_handled no_handlers = []
tags_handled (table cs) = map tag_caught cs
tags_handled (clauses c) = tags_turned_to c

-- how many labels around are passed over
abbrev pub delegated : Code → ℕ
delegated (close (op.Exception (op.Delegate n))) = n
delegated (close o) = 0
delegated (plain o more) = delegated more
delegated (nested o body more) = delegated more
delegated (turn o more) = delegated more

abbrev pub passed_over : Handlers → ℕ
passed_over (clauses c) = delegated c
passed_over h = 0

-- how many labels are left, and which clause of the next one catches
pub record Place : Type 0 where
  pub leaves : ℕ
  pub clause : ℕ

abbrev pub one_further : Place → Place
one_further l = record { leaves = suc l.leaves; clause = l.clause }

-- the labels of a run, the innermost first
abbrev pub labels_of : State → List Label
labels_of [] = []
labels_of (act ∷ acts) = act.innermost ∷ act.around ++ labels_of acts

module _ (addresses : List ℕ) (tag : ℕ) where
  abbrev pub is_for_tag : Option ℕ → Bool
  is_for_tag None = true
  is_for_tag (Some x) = get_or addresses x (tag + 1) == tag

  -- the number of the first clause that catches, if one does
  abbrev pub first_of : List (Option ℕ) → Option ℕ
  first_of [] = None
  first_of (c ∷ cs) = if is_for_tag c then Some 0 else option_map (λ n. suc n) (first_of cs)

  abbrev pub caught_if : Option ℕ → Place → Place
  caught_if None further = one_further further
  caught_if (Some c) further = record { leaves = 0; clause = c }

  -- with so many labels still to be passed over; or all are left
  abbrev pub caught_from : ℕ → List Label → Place
  caught_from skip [] = record { leaves = 0; clause = 0 }
  caught_from (suc skip) (l ∷ ls) = one_further (caught_from skip ls)
  caught_from zero (l ∷ ls) = caught_if (first_of (tags_handled l.handlers))
      (caught_from (passed_over l.handlers) ls)

-- from the innermost label of a run on
abbrev pub place_of : List ℕ → ℕ → State → Place
place_of addresses tag s = caught_from addresses tag 0 (labels_of s)

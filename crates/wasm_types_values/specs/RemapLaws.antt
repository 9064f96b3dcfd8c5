-- Laws of remapping: for a type with one index, and for parts one after the other.
use Rattle.std.proofs.Common.{List, [], ◌∷◌, ◌++◌, refl, sym, ap, ◌∙◌}
use Rattle.std.proofs.lemmas.List.{append_assoc}
use Rattle.std.specs.Prelude.{Result, Ok, Err}
use Rattle.wasm_types_values.specs.Remap.{AreAnswered, IsCutShort, IsWalked}

module _ {R E : Type 0} (answers : R → Result R E → Type 0) where
  -- ---- one index

  pub refused_alone : (e : E) (i : R) → answers i (Err e) → IsCutShort answers e (i ∷ []) (i ∷ [])
  refused_alone e i h = record { done = []; replaced = []; refused = i; rest = []; answered = tt; refusal = h; old = refl; new = refl }

  -- ---- indices one after the other

  append_answered : (is js ks ls : List R) → AreAnswered answers is js → AreAnswered answers ks ls → AreAnswered answers (is ++ ks) (js ++ ls)
  append_answered [] [] ks ls p q = q
  append_answered [] (j ∷ js) ks ls p q = absurd p
  append_answered (i ∷ is) [] ks ls p q = absurd p
  append_answered (i ∷ is) (j ∷ js) ks ls p q = (p.0, append_answered is js ks ls p.1 q)

  append_cut : (e : E) (is js ks ls : List R) → AreAnswered answers is js → IsCutShort answers e ks ls → IsCutShort answers e (is ++ ks) (js ++ ls)
  append_cut e is js ks ls p q = record {
    done = is ++ q.done;
    replaced = js ++ q.replaced;
    refused = q.refused;
    rest = q.rest;
    answered = append_answered is js q.done q.replaced p q.answered;
    refusal = q.refusal;
    old = ap (λ (z : List R). is ++ z) q.old ∙ sym (append_assoc is q.done (q.refused ∷ q.rest));
    new = ap (λ (z : List R). js ++ z) q.new ∙ sym (append_assoc js q.replaced (q.refused ∷ q.rest));
  }

  -- all of a first part are answered, and the walk goes on
  pub walked_next : {U : Type 0} (r : Result U E) (is js ks ls : List R) → AreAnswered answers is js → IsWalked answers r ks ls → IsWalked answers r (is ++ ks) (js ++ ls)
  walked_next (Ok u) is js ks ls p q = append_answered is js ks ls p q
  walked_next (Err e) is js ks ls p q = append_cut e is js ks ls p q

  -- one of a first part is refused, and what stands behind it stays
  pub cut_before : (e : E) (is js ks : List R) → IsCutShort answers e is js → IsCutShort answers e (is ++ ks) (js ++ ks)
  cut_before e is js ks q = record {
    done = q.done;
    replaced = q.replaced;
    refused = q.refused;
    rest = q.rest ++ ks;
    answered = q.answered;
    refusal = q.refusal;
    old = ap (λ (z : List R). z ++ ks) q.old ∙ append_assoc q.done (q.refused ∷ q.rest) ks;
    new = ap (λ (z : List R). z ++ ks) q.new ∙ append_assoc q.replaced (q.refused ∷ q.rest) ks;
  }

-- Exports one by one, with their names one after the other.
use Rattle.std.specs.Prelude.{IsUtf8}
use Rattle.std.proofs.Common.{◌≡◌, ◌∙◌, ℕ, List, [], ◌∷◌, ◌++◌, length, refl, sym, ap, subst}
use Rattle.std.proofs.lemmas.List.{map-append}
use Rattle.wasm_sections_items.specs.imports.Spells.{ExportTree}
use Rattle.wasm_module_validator_exports.specs.declared.names.exports.KeptExport.{KeptExport}
use Rattle.wasm_module_validator_exports.specs.names.Exports.{AreNamed, exports_of, kept_of, names_of}
use Rattle.wasm_module_validator_exports.specs.names.Kept.{IsNamed}
use Rattle.wasm_module_validator_exports.proofs.Kept.{last_name, last_named, name_still, named_still}

-- ---- bytes of names more

pub exports_still : (t more : List ℕ) (es : List KeptExport) → AreNamed t es → exports_of (t ++ more) es ≡ exports_of t es
exports_still t more [] h = refl
exports_still t more (e ∷ es) h =
    ap (λ (n : List ℕ). record { name = n; kind = e.kind; index = e.index } ∷ exports_of (t ++ more) es) (name_still t more e.name h.0)
    ∙ ap (λ (xs : List ExportTree). kept_of t e ∷ xs) (exports_still t more es h.1)

pub are_still_named : (t more : List ℕ) (es : List KeptExport) → AreNamed t es → AreNamed (t ++ more) es
are_still_named t more [] h = tt
are_still_named t more (e ∷ es) h = (named_still t more e.name h.0, are_still_named t more es h.1)

-- ---- an export more

one_more_named : (t : List ℕ) (es : List KeptExport) (e : KeptExport) → AreNamed t es → IsNamed t e.name → AreNamed t (es ++ e ∷ [])
one_more_named t [] e h n = (n, tt)
one_more_named t (x ∷ xs) e h n = (h.0, one_more_named t xs e h.1 n)

module _ (t f u : List ℕ) (es more : List KeptExport) (e : KeptExport) (long : u ≡ t ++ f) (start : e.name.start ≡ length t) (end : e.name.end ≡ length u) (put : more ≡ es ++ e ∷ []) where
  pub one_more_export : AreNamed t es → exports_of u more ≡ exports_of t es ++ record { name = f; kind = e.kind; index = e.index } ∷ []
  one_more_export h =
      ap (exports_of u) put ∙ ap (λ (v : List ℕ). exports_of v (es ++ e ∷ [])) long ∙ map-append (kept_of (t ++ f)) es (e ∷ [])
      ∙ ap (λ (xs : List ExportTree). xs ++ kept_of (t ++ f) e ∷ []) (exports_still t f es h)
      ∙ ap (λ (n : List ℕ). exports_of t es ++ record { name = n; kind = e.kind; index = e.index } ∷ []) (last_name t f e.name start (end ∙ ap length long))

  pub one_more_kept : IsUtf8 f → AreNamed t es → AreNamed u more
  one_more_kept utf8 h =
      subst (λ (xs : List KeptExport). AreNamed u xs) (sym put) (subst (λ (v : List ℕ). AreNamed v (es ++ e ∷ [])) (sym long)
      (one_more_named (t ++ f) es e (are_still_named t f es h) (last_named t f e.name start (end ∙ ap length long) utf8)))

  -- the names are those before and the new one
  pub one_more_name : AreNamed t es → names_of (exports_of u more) ≡ names_of (exports_of t es) ++ f ∷ []
  one_more_name h =
      ap names_of (one_more_export h)
      ∙ map-append (λ (x : ExportTree). x.name) (exports_of t es) (record { name = f; kind = e.kind; index = e.index } ∷ [])

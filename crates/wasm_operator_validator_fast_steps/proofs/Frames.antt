-- Frames that begin and end, and whole bodies.
use Rattle.std.proofs.Common.{map, ◌⊎◌, inl, inr, ◌<◌, lt-ltb, get_or, ◌≡◌, ◌∙◌, ℕ, ◌+◌, ◌-◌, List, [], ◌∷◌, ◌++◌, Bool, true, false, refl, arith, sym, ap, subst, append-nil, length, drop, reverse, nat_lt}
use Rattle.std.proofs.lemmas.List.{map-append}
use Rattle.std.proofs.lemmas.Nat.Bits.{bit_at-zero}
use Rattle.std.proofs.lemmas.Grind.{common_steps}
use Rattle.std.specs.Prelude.{if◌then◌else◌}
use Rattle.wasm_types.specs.settings.Settings.{Settings}
use Rattle.wasm_types.specs.trees.Trees.{TypeTree}
use Rattle.wasm_types.specs.decoding.Numbers.{GivesAt}
use Rattle.wasm_operators_immediates.specs.Blocks.{block_type}
use Rattle.wasm_operators_immediates.specs.Immediates.{Block}
use Rattle.wasm_operators_frequent.specs.Short.{Begins, IsTold}
use Rattle.wasm_operators_frequent.proofs.ShortReading.{told_with, told_alone}
use Rattle.wasm_operators_frequent.proofs.Carried.{block_of}
use Rattle.wasm_operators_encoding.specs.expressions.Code.{Code, walk}
use Rattle.wasm_operators_encoding.specs.expressions.Spelling.{SpelledOperators, SpelledExpression}
use Rattle.wasm_operators_enums.specs.declared.control.ControlOperator.TheVariants as control
use Rattle.wasm_operators_immediates.specs.declared.block.BlockType.{BlockType}
use Rattle.wasm_operators_immediates.specs.declared.frames.FrameKind.{FrameKind}
use Rattle.wasm_operators_immediates.specs.declared.frames.FrameKind.TheVariants as frames
use Rattle.wasm_operators_enums.specs.Op as op
use Rattle.wasm_operators_enums.specs.Op.{Op}
use Rattle.wasm_operators_enums.specs.Roles.{role_of}
use Rattle.wasm_operators_enums.specs.declared.role.Role.TheVariants.{Opens}
use Rattle.wasm_operator_validator_rules.specs.Context.{Context, IsBlockType, initialised_at_first, defaultable, inside, label_of, is_catch}
use Rattle.wasm_operator_validator_rules.specs.Operands.{stack}
use Rattle.wasm_operator_validator_rules.specs.Typed.{block_type_of, HasType, MayNest, MayClose, entry_of, IsBody, Typed}
use Rattle.wasm_operator_validator_state.specs.State.{InFrame}
use Rattle.wasm_operator_validator_state.specs.laws.Closing.{end, else, in_open, in_else, in_end}
use Rattle.wasm_operator_validator_fast_tables.specs.declared.tables.Open.{Open}
use Rattle.wasm_operator_validator_fast_tables.specs.declared.tables.Sig.{Sig}
use Rattle.wasm_operator_validator_fast_tables.specs.declared.tables.Tables.{Tables}
use Rattle.wasm_operator_validator_fast_tables.specs.Stacks.{Values, lying, with_all}
use Rattle.wasm_operator_validator_fast_tables.specs.Values.{type_of, types, operands}
use Rattle.wasm_operator_validator_fast_tables.specs.Tables.{params_in, results_in, signature_in, label_in, Fits, HasDefault, BeginSet}
use Rattle.wasm_operator_validator_fast_tables.specs.Loop.{outermost, HasValue, Full, set_before, inside_all, label, Closes, Goes, Leads, Enters, Leaves}
use Rattle.wasm_operator_validator_fast_steps.proofs.Stepping.{Stands, stood, step}
use Rattle.wasm_operator_validator_fast_steps.proofs.Rows.{on_stack, same_below}

module _ (t : Tables) (text : List ℕ) (i e : ℕ) (o : Open) (outer : List Open) (v w : Values) where
  abbrev results : Open → List ℕ
  results n = results_in t.known.flat.items n.sig

  -- ---- a frame that begins

  -- the operators of the frame, and then those behind it
  pub opened : (ids : List TypeTree) (p : Op) (n : Open) (ts under : List ℕ) → role_of p ≡ Opens n.kind → entry_of n.kind (signature_in ids t.known.flat.items n.sig) ≡ types ids ts
      → (c : Context) → HasType c (block_type_of p) (signature_in ids t.known.flat.items n.sig) → MayNest (inside_all ids c t.known.flat.items (o ∷ outer)) p
      → n.set ≡ o.set → (os : List Op) → Closes ids t c (n ∷ o ∷ outer) (with_all (params_in t.known.flat.items n.sig) ([], under)) os
      → Closes ids t c (o ∷ outer) (with_all ts (lying n.base under)) (p ∷ os)
  opened ids p n ts under is entry c typed nests same os h set before full whole =
      let g = inside_all ids c t.known.flat.items (o ∷ outer) in
      let b = signature_in ids t.known.flat.items n.sig in
      let r = (lying n.base under).0 in
      let (code, rest, inner, walked, body, k) = h set set (subst (λ (b : ℕ). Full t b set) (sym same) full) full in
      (in_open g (record { kind = o.kind; block = signature_in ids t.known.flat.items o.sig; before = before }) set (operands ids (reverse ts ++ r)) p n.kind os
      (λ later. Closes ids t c outer (with_all (results o) (lying o.base (lying n.base under).1)) later) is).1 (
        b,
        operands ids r,
        (is, typed, nests),
        rw entry (same_below _ _ (on_stack ids ts r)),
        (
          code,
          rest,
          inner,
          walked,
          subst (λ s. Typed (inside_all ids c t.known.flat.items (n ∷ o ∷ outer)) (record { kind = n.kind; block = b; before = set }) set code s) (on_stack ids (params_in t.known.flat.items n.sig) [] ∙ append-nil _) body,
          subst (λ s. InFrame g (record { kind = o.kind; block = signature_in ids t.known.flat.items o.sig; before = before }) set s rest
              (λ later. Closes ids t c outer (with_all (results o) (lying o.base (lying n.base under).1)) later)) (on_stack ids (results n) r) (k set before full whole),
        ),
      )

  pub took_opener : (k : FrameKind) (s : Sig) (p : Op) (ts : List ℕ) → Stands t.features.0 text i e p → role_of p ≡ Opens k
      → ((ids : List TypeTree) → entry_of k (signature_in ids t.known.flat.items s) ≡ types ids ts)
      → ((ids : List TypeTree) (z : Settings) (c : Context) → Fits ids z text t c → HasType c (block_type_of p) (signature_in ids t.known.flat.items s))
      → ((ids : List TypeTree) (z : Settings) (c : Context) → Fits ids z text t c → MayNest (inside_all ids c t.known.flat.items (o ∷ outer)) p)
      → (m : Values) (n : Open) (others : List Open) (h : Enters t.known.flat.items k s m w o outer n others)
      → v ≡ with_all ts (lying n.base h.under) → Leads text t i (o ∷ outer) v e (n ∷ others) w
  took_opener k s p ts stands is entry typed nests m n others h there ids z c fits =
      step ids z text t c i e (o ∷ outer) (n ∷ others) v w fits p stands
      (λ os x. rw there (opened ids p n ts h.under (is ∙ ap Opens (sym h.kind)) (rw (h.kind, h.sig) (entry ids)) c (rw h.sig (typed ids z c fits)) (nests ids z c fits) h.set os
      (rw (h.frames, h.begun) at x)))

  -- an opener by its byte and its block type
  opener_stands : (p : Op) → IsTold t.features.0 text i e (λ q. q ≡ p) → Stands t.features.0 text i e p
  opener_stands p told = stood t.features.0 text i e p told

  pub took_block : Begins text i 0x02 → (bt : BlockType) → GivesAt block_type text (i + 1) bt e → (s : Sig) → ((ids : List TypeTree) (z : Settings) (c : Context) → Fits ids z text t c → IsBlockType c bt (signature_in ids t.known.flat.items s))
      → (n : Open) (others : List Open) → Enters t.known.flat.items frames.Block s v w o outer n others → Leads text t i (o ∷ outer) v e (n ∷ others) w
  took_block begins bt g s typed n others h =
      took_opener frames.Block s (op.Control (control.Block bt)) (params_in t.known.flat.items s)
      (opener_stands (op.Control (control.Block bt)) (told_with t.features.0 text i 2 2 begins refl (op.Control (control.Block bt)) refl refl _ refl refl refl (Block bt) e refl (λ limits. block_of _ _ _ _ bt g))) refl (λ ids. refl) typed (λ ids z c fits. tt) v n others h (rw h.sig at h.params)

  pub took_loop : Begins text i 0x03 → (bt : BlockType) → GivesAt block_type text (i + 1) bt e → (s : Sig) → ((ids : List TypeTree) (z : Settings) (c : Context) → Fits ids z text t c → IsBlockType c bt (signature_in ids t.known.flat.items s))
      → (n : Open) (others : List Open) → Enters t.known.flat.items frames.Loop s v w o outer n others → Leads text t i (o ∷ outer) v e (n ∷ others) w
  took_loop begins bt g s typed n others h =
      took_opener frames.Loop s (op.Control (control.Loop bt)) (params_in t.known.flat.items s)
      (opener_stands (op.Control (control.Loop bt)) (told_with t.features.0 text i 3 3 begins refl (op.Control (control.Loop bt)) refl refl _ refl refl refl (Block bt) e refl (λ limits. block_of _ _ _ _ bt g))) refl (λ ids. refl) typed (λ ids z c fits. tt) v n others h (rw h.sig at h.params)

  pub took_if : Begins text i 0x04 → (bt : BlockType) → GivesAt block_type text (i + 1) bt e → (s : Sig) → ((ids : List TypeTree) (z : Settings) (c : Context) → Fits ids z text t c → IsBlockType c bt (signature_in ids t.known.flat.items s))
      → (m : Values) → v ≡ (0 ∷ m.0, m.1) → (n : Open) (others : List Open) → Enters t.known.flat.items frames.If s m w o outer n others → Leads text t i (o ∷ outer) v e (n ∷ others) w
  took_if begins bt g s typed m condition n others h =
      let ps = params_in t.known.flat.items s in
      let r = (lying n.base h.under).0 in
      let all : 0 ∷ (reverse ps ++ r) ≡ reverse (ps ++ 0 ∷ []) ++ r = grind (arith, common_steps) in
      took_opener frames.If s (op.Control (control.If bt)) (ps ++ 0 ∷ [])
      (opener_stands (op.Control (control.If bt)) (told_with t.features.0 text i 4 4 begins refl (op.Control (control.If bt)) refl refl _ refl refl refl (Block bt) e refl (λ limits. block_of _ _ _ _ bt g)))
      refl (λ ids. sym (map-append (type_of ids) ps (0 ∷ []))) typed (λ ids z c fits. tt) m n others h
      (condition ∙ ap (λ (x : Values). (0 ∷ x.0, x.1)) (rw h.sig at h.params) ∙ ap (λ xs. (xs, (lying n.base h.under).1)) all)

  -- ---- a frame that turns

  single_stands : (p : Op) → IsTold t.features.0 text i (i + 1) (λ q. q ≡ p) → i + 1 ≡ e → Stands t.features.0 text i e p
  single_stands p told behind = rw (← behind) (stood t.features.0 text i (i + 1) p told)

  abbrev pub second_part : Open
  second_part = record { kind = frames.Else; base = o.base; set = set_before outer; sig = o.sig }

  turned : (ids : List TypeTree) → o.kind ≡ frames.If → (c : Context) → (m : Values) → m.0 ≡ [] → (os : List Op) → Closes ids t c (second_part ∷ outer) (with_all (params_in t.known.flat.items o.sig) m) os
      → Closes ids t c (o ∷ outer) (with_all (results o) m) ((else) ∷ os)
  turned ids is c m none os x set before full whole =
      let b = signature_in ids t.known.flat.items o.sig in
      let ps = params_in t.known.flat.items o.sig in
      let same : label ids t.known.flat.items second_part ≡ label ids t.known.flat.items o = sym (ap (λ k. label_of k b) is) in
      let caught : is_catch frames.Else ≡ is_catch o.kind = sym (ap is_catch is) in
      let there : inside_all ids c t.known.flat.items (second_part ∷ outer) ≡ inside_all ids c t.known.flat.items (o ∷ outer)
      = λ i. record c { labels = same i ∷ (map (label ids t.known.flat.items) outer ++ c.labels); catches = caught i ∷ (map (λ q. is_catch q.kind) outer ++ c.catches) } in
      let inner = subst (λ (h : Context). InFrame h (record { kind = frames.Else; block = b; before = before }) before (operands ids (reverse ps ++ m.0)) os
      (λ rest. Closes ids t c outer (with_all (results o) (lying o.base m.1)) rest)) there (x before before whole whole) in
      (in_else (inside_all ids c t.known.flat.items (o ∷ outer)) (record { kind = o.kind; block = b; before = before }) set (operands ids (reverse (results o) ++ m.0)) os
      (λ rest. Closes ids t c outer (with_all (results o) (lying o.base m.1)) rest)).1 (
        is,
        same_below _ _ (rw none (on_stack ids (results o) [] ∙ append-nil _)),
        subst (λ s. InFrame (inside_all ids c t.known.flat.items (o ∷ outer)) (record { kind = frames.Else; block = b; before = before }) before s os
            (λ rest. Closes ids t c outer (with_all (results o) (lying o.base m.1)) rest)) (rw none (on_stack ids ps [] ∙ append-nil _)) inner,
      )

  pub took_else : Begins text i 0x05 → i + 1 ≡ e → o.kind ≡ frames.If → (rs ps : List ℕ) → rs ≡ results o → ps ≡ params_in t.known.flat.items o.sig → (m : Values) → v ≡ with_all rs m → m.0 ≡ []
      → w ≡ with_all ps m → Leads text t i (o ∷ outer) v e (second_part ∷ outer) w
  took_else begins behind is rs ps same_rs same_ps m taken none put ids z c fits =
      step ids z text t c i e (o ∷ outer) (second_part ∷ outer) v w fits (else) (single_stands (else) (told_alone t.features.0 text i 5 5 begins refl (else) refl refl _ refl refl refl refl) behind)
      (λ os x. rw (taken, same_rs) (turned ids is c m none os (rw (put, same_ps) at x)))

  -- ---- a frame that ends

  closed : (ids : List TypeTree) (c : Context) → Leaves t.known.flat.items o v w → (os : List Op) → Closes ids t c outer w os → Closes ids t c (o ∷ outer) v (end ∷ os)
  closed ids c h os x set before full whole =
      (in_end (inside_all ids c t.known.flat.items (o ∷ outer)) (record { kind = o.kind; block = signature_in ids t.known.flat.items o.sig; before = before }) set (operands ids v.0) os
      (λ rest. Closes ids t c outer (with_all (results o) (lying o.base v.1)) rest)).1 (
        same_below _ _ (ap (λ (y : Values). operands ids y.0) h.results ∙ on_stack ids (results o) [] ∙ append-nil _),
        h.kind ids,
        subst (λ y. Closes ids t c outer y os) (h.ended ∙ ap (λ (y : Values). with_all (results o) (lying o.base y.1)) (sym h.results)) x,
      )

  pub took_end : Begins text i 0x0b → i + 1 ≡ e → (p : Open) (others : List Open) → outer ≡ p ∷ others → Leaves t.known.flat.items o v w → Leads text t i (o ∷ outer) v e (p ∷ others) w
  took_end begins behind p others there h ids z c fits =
      step ids z text t c i e (o ∷ outer) (p ∷ others) v w fits end (single_stands end (told_alone t.features.0 text i 11 11 begins refl end refl refl _ refl refl refl refl) behind)
      (λ os x. closed ids c h os (rw there x))

  pub finished : Begins text i 0x0b → i + 1 ≡ length text → outer ≡ [] → Leaves t.known.flat.items o v w → (ids : List TypeTree) (z : Settings) (c : Context) → Fits ids z text t c → Goes ids z text t c i (o ∷ outer) v
  finished begins all none h ids z c fits =
      step ids z text t c i (i + 1) (o ∷ outer) [] v w fits end (stood t.features.0 text i (i + 1) end (told_alone t.features.0 text i 11 11 begins refl end refl refl _ refl refl refl refl))
      (λ os x. closed ids c h os (rw none x)) ([], (let past : drop (i + 1) text ≡ [] = grind (arith, common_steps) in past), refl)

-- ---- frames and labels of nothing

module _ (flat : List ℕ) (s : Sig) (params : s.param_count ≡ 0) (gives : s.result_count ≡ 0) where
  takes_none : [] ≡ params_in flat s
  takes_none = rw params refl

  gives_none : [] ≡ results_in flat s
  gives_none = rw gives refl

  -- a branch to a frame that takes and gives nothing takes nothing
  pub bare_label : (k : FrameKind) → [] ≡ label_in flat k s
  bare_label frames.Loop = takes_none
  bare_label frames.Block = gives_none
  bare_label frames.If = gives_none
  bare_label frames.Else = gives_none
  bare_label frames.TryTable = gives_none
  bare_label frames.LegacyTry = gives_none
  bare_label frames.LegacyCatch = gives_none
  bare_label frames.LegacyCatchAll = gives_none

  -- and it may end
  pub bare_closes : (ids : List TypeTree) (k : FrameKind) → MayClose k (signature_in ids flat s)
  bare_closes ids frames.If = same_below _ _ (ap (λ (xs : List ℕ). stack (types ids xs)) (sym takes_none ∙ gives_none))
  bare_closes ids frames.Loop = tt
  bare_closes ids frames.Block = tt
  bare_closes ids frames.Else = tt
  bare_closes ids frames.TryTable = tt
  bare_closes ids frames.LegacyTry = tt
  bare_closes ids frames.LegacyCatch = tt
  bare_closes ids frames.LegacyCatchAll = tt

module _ (flat : List ℕ) (v w : Values) where
  pub entered_bare : (k : FrameKind) (s : Sig) (o : Open) (outer : List Open) (n : Open) (others : List Open) → s.param_count ≡ 0 → n.kind ≡ k → n.sig ≡ s → n.set ≡ o.set → others ≡ o ∷ outer
      → lying n.base w.1 ≡ v → w.0 ≡ [] → Enters flat k s v w o outer n others
  entered_bare k s o outer n others zero kind sig set frames under own =
      let none : params_in flat n.sig ≡ [] = rw (sig, zero) refl in
      record {
        kind = kind;
        sig = sig;
        set = set;
        frames = frames;
        under = w.1;
        params = rw none (sym under);
        begun = rw none (ap (λ (xs : List ℕ). (xs, w.1)) own);
      }

  pub left_bare : (o : Open) → ((ids : List TypeTree) → MayClose o.kind (signature_in ids flat o.sig)) → o.sig.result_count ≡ 0 → v.0 ≡ [] → w ≡ lying o.base v.1 → Leaves flat o v w
  left_bare o kind zero own ended =
      let none : results_in flat o.sig ≡ [] = rw zero refl in
      record {
        kind = kind;
        under = v.1;
        results = rw none (ap (λ (xs : List ℕ). (xs, v.1)) own);
        ended = rw none ended;
      }

-- a frame begins on its parameters, and one ends with its results
module _ (flat : List ℕ) (xs : List ℕ) (m b w : Values) where
  pub entered_with : (k : FrameKind) (s : Sig) (o : Open) (outer : List Open) (n : Open) (others : List Open) → n.kind ≡ k → n.sig ≡ s → n.set ≡ o.set → others ≡ o ∷ outer
      → xs ≡ params_in flat s → lying n.base b.1 ≡ m → b.0 ≡ [] → w ≡ with_all xs b → Enters flat k s (with_all xs m) w o outer n others
  entered_with k s o outer n others kind sig set frames is under own put =
      let same : xs ≡ params_in flat n.sig = is ∙ sym (ap (params_in flat) sig) in
      record {
        kind = kind;
        sig = sig;
        set = set;
        frames = frames;
        under = b.1;
        params = ap (λ (ys : List ℕ). with_all ys m) same ∙ ap (with_all (params_in flat n.sig)) (sym under);
        begun = put ∙ ap (λ (ys : List ℕ). with_all ys b) same ∙ ap (λ (ys : List ℕ). with_all (params_in flat n.sig) (ys, b.1)) own;
      }

  pub left_with : (o : Open) → ((ids : List TypeTree) → MayClose o.kind (signature_in ids flat o.sig)) → xs ≡ results_in flat o.sig → m.0 ≡ [] → b ≡ lying o.base m.1
      → w ≡ with_all xs b → Leaves flat o (with_all xs m) w
  left_with o kind is none under put = record {
    kind = kind;
    under = m.1;
    results = ap (λ (ys : List ℕ). with_all ys m) is ∙ ap (λ (ys : List ℕ). with_all (results_in flat o.sig) (ys, m.1)) none;
    ended = put ∙ ap (λ (ys : List ℕ). with_all ys b) is ∙ ap (with_all (results_in flat o.sig)) under;
  }

-- ---- whole bodies

all_set : (ids : List TypeTree) (z : Settings) (text : List ℕ) (t : Tables) (g : Context) → Fits ids z text t g → (params : ℕ) → BeginSet t params
    → Full t 0 (initialised_at_first params g.locals)
all_set ids z text t g fits params begun x lt has = rw (fits.locals x lt) (value has)
  where
    any : (b : Bool) → (if b then true else true) ≡ true
    any true = refl
    any false = refl

    either : (x < params) ⊎ HasDefault (get_or t.locals.items x 0) → (if nat_lt x params then true else defaultable (type_of ids (get_or t.locals.items x 0))) ≡ true
    either (inl few) = rw (lt-ltb x params few) refl
    either (inr default) = rw (default ids) (any (nat_lt x params))

    value : HasValue t 0 x → (if nat_lt x params then true else defaultable (type_of ids (get_or t.locals.items x 0))) ≡ true
    value (inl sure) = either (begun x lt sure)
    value (inr (inl default)) = either (inr default)
    value (inr (inr bit)) = let none = bit_at-zero (x - t.certain) in absurd (omega (arith, bit, none))

pub whole_body : (t : Tables) (text : List ℕ) (start : ℕ) (v : Values) → v.0 ≡ [] → (ids : List TypeTree) (z : Settings) (g : Context) → Fits ids z text t g
    → Goes ids z text t g start (outermost t.results ∷ []) v → (params : ℕ) → BeginSet t params
    → (c : Code) × SpelledExpression z c (drop start text) × IsBody g params c
whole_body t text start v none ids z g fits (os, h, goes) params begun =
    let set = initialised_at_first params g.locals in
    let full = all_set ids z text t g fits params begun in
    let (c, rest, inner, walked, typed, k) = goes set set full full in
    let all : os ≡ walk c = walked ∙ ap (λ xs. walk c ++ xs) k ∙ append-nil (walk c) in (
      c,
      record { expression = inner; spelled = subst (λ xs. SpelledOperators z xs (drop start text)) all h },
      record {
        expression = inner;
        typed = subst (λ r. Typed (inside frames.Block r g) (record { kind = frames.Block; block = record { params = []; results = r }; before = set }) set c []) (sym fits.results)
            (subst (λ xs. Typed (inside frames.Block (types ids (results_in t.known.flat.items t.results)) g) (record { kind = frames.Block; block = record { params = []; results = types ids (results_in t.known.flat.items t.results) }; before = set }) set c (operands ids xs)) none typed);
      },
    )

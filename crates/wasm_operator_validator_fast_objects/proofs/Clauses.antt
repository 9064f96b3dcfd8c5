-- The clauses of `try_table`, and the frame that it begins.
use Rattle.std.specs.Prelude.{if◌then◌else◌}
use Rattle.std.proofs.Common.{◌≡◌, ◌∙◌, ◌≤◌, ◌<◌, ◌+◌, ◌-◌, ℕ, zero, suc, Bool, true, false, List, [], ◌∷◌, ◌++◌, refl, sym, ap, subst, arith, append-nil, length, map, drop, get_or}
use Rattle.std.proofs.lemmas.List.{map-append, drop-drop, drop_more, append_assoc, length_push}
use Rattle.std.proofs.lemmas.Grind.{common_steps}
use Rattle.wasm_types.specs.decoding.Decoder.{State, Decoder, Grammar, Decides, Many}
use Rattle.wasm_types.specs.decoding.Leb.{u32, IsUnsigned}
use Rattle.wasm_types.specs.decoding.Numbers.{behind, GivesAt}
use Rattle.wasm_types.specs.settings.Features as feature
use Rattle.wasm_types.specs.settings.Settings.{Settings, no_features}
use Rattle.wasm_types.specs.trees.Trees.{TypeTree}
use Rattle.wasm_operators_immediates.specs.declared.block.BlockType.{BlockType}
use Rattle.wasm_operators_immediates.specs.declared.handlers.Catch.{Catch}
use Rattle.wasm_operators_immediates.specs.declared.handlers.Catch.TheVariants as clause
use Rattle.wasm_operators_immediates.specs.declared.frames.FrameKind.TheVariants as frames
use Rattle.wasm_operators_immediates.specs.declared.proposal.Proposal.TheVariants as proposals
use Rattle.wasm_operators_immediates.specs.Blocks.{block_type, SpelledBlock}
use Rattle.wasm_operators_immediates.specs.BlockLaws.{decides-block_type}
use Rattle.wasm_operators_immediates.specs.Handlers.{SpelledCatch, catch_table}
use Rattle.wasm_operators_enums.specs.Op as op
use Rattle.wasm_operators_enums.specs.Op.{Op}
use Rattle.wasm_operators_enums.specs.declared.role.Role.TheVariants.{Opens}
use Rattle.wasm_operators_encoding.specs.Operators.{SpelledOperator}
use Rattle.wasm_operators_frequent.specs.Short.{Begins}
use Rattle.wasm_operator_validator_rules.specs.Operands.{ValueType, Operand, AllBelow, known}
use Rattle.wasm_operator_validator_rules.specs.Context.{Context, IsBlockType}
use Rattle.wasm_operator_validator_rules.specs.Exceptions.{Carries, Catches, EachCatches, exception}
use Rattle.wasm_operator_validator_fast_tables.specs.declared.order.Step.{Step}
use Rattle.wasm_operator_validator_fast_tables.specs.declared.tables.Open.{Open}
use Rattle.wasm_operator_validator_fast_tables.specs.declared.tables.Sig.{Sig}
use Rattle.wasm_operator_validator_fast_tables.specs.declared.tables.Tables.{Tables}
use Rattle.wasm_operator_validator_fast_steps.specs.Labels.{Takes}
use Rattle.wasm_operator_validator_fast_tables.specs.Stacks.{Values}
use Rattle.wasm_operator_validator_fast_tables.specs.Values.{type_of, types, operands, AreBelow}
use Rattle.wasm_operator_validator_fast_tables.specs.Tables.{params_in, signature_in, Fits}
use Rattle.wasm_operator_validator_fast_tables.specs.Loop.{inside_all, Enters, Leads}
use Rattle.wasm_operator_validator_fast_steps.proofs.Coded.{of_feature}
use Rattle.wasm_operator_validator_fast_steps.proofs.Spelled.{many_more, unsigned_at}
use Rattle.wasm_operator_validator_fast_steps.proofs.Rows.{label_there}
use Rattle.wasm_operator_validator_fast_steps.proofs.Frames.{opened}
use Rattle.wasm_operator_validator_fast_objects.specs.Exceptions.{IsTagOf, IsCatchAt, AreCatches, caught}

-- ---- operands that fit

all_below_more : (s t u w : List Operand) → AllBelow s t → AllBelow u w → AllBelow (s ++ u) (t ++ w)
all_below_more [] [] u w a b = b
all_below_more [] (y ∷ t) u w a b = absurd a
all_below_more (x ∷ s) [] u w a b = absurd a
all_below_more (x ∷ s) (y ∷ t) u w a b = (a.0, all_below_more s t u w a.1 b)

operands_on : (ids : List TypeTree) (ns : List ℕ) (k : ℕ) → operands ids (ns ++ k ∷ []) ≡ operands ids ns ++ operands ids (k ∷ [])
operands_on ids ns k = ap (map known) (map-append (type_of ids) ns (k ∷ [])) ∙ map-append known (types ids ns) (types ids (k ∷ []))

drop_whole : (xs : List ℕ) (n : ℕ) → length xs ≤ n → drop n xs ≡ []
drop_whole [] zero h = refl
drop_whole [] (suc n) h = refl
drop_whole (x ∷ xs) zero h = absurd (omega (arith, h))
drop_whole (x ∷ xs) (suc n) h = drop_whole xs n (omega (arith, h))

module _ (steps : List Step) where
  -- one more in front
  pub below_front : (k n : ℕ) (ks ns : List ℕ) → AreBelow steps (k ∷ []) (n ∷ []) → AreBelow steps ks ns → AreBelow steps (k ∷ ks) (n ∷ ns)
  below_front k n ks ns h g ids are = ((h ids are).0, g ids are)

  -- one more behind
  pub below_behind : (ks ns : List ℕ) (k n : ℕ) → AreBelow steps ks ns → AreBelow steps (k ∷ []) (n ∷ []) → AreBelow steps (ks ++ k ∷ []) (ns ++ n ∷ [])
  below_behind ks ns k n g h ids are =
      rw (operands_on ids ks k, operands_on ids ns n) (all_below_more (operands ids ks) (operands ids ns) (operands ids (k ∷ [])) (operands ids (n ∷ [])) (g ids are) (h ids are))

  -- the same from the end of both on
  pub below_next : (xs ys : List ℕ) (left : ℕ) → 0 < left → left ≤ length xs → length xs ≡ length ys → AreBelow steps (get_or xs (left - 1) 0 ∷ []) (get_or ys (left - 1) 0 ∷ [])
      → AreBelow steps (drop left xs) (drop left ys) → AreBelow steps (drop (left - 1) xs) (drop (left - 1) ys)
  below_next xs ys left some le same one more =
      let e : left - 1 + 1 ≡ left = omega (arith, some) in
      let first : drop (left - 1) xs ≡ get_or xs (left - 1) 0 ∷ drop left xs
      = drop_more xs (left - 1) 0 (omega (arith, some, le)) ∙ ap (λ (k : ℕ). get_or xs (left - 1) 0 ∷ drop k xs) e in
      let second : drop (left - 1) ys ≡ get_or ys (left - 1) 0 ∷ drop left ys
      = drop_more ys (left - 1) 0 (omega (arith, some, le, same)) ∙ ap (λ (k : ℕ). get_or ys (left - 1) 0 ∷ drop k ys) e in
      subst (λ (ks : List ℕ). AreBelow steps ks (drop (left - 1) ys)) (sym first)
      (subst (λ (ks : List ℕ). AreBelow steps (get_or xs (left - 1) 0 ∷ drop left xs) ks) (sym second) (below_front (get_or xs (left - 1) 0) (get_or ys (left - 1) 0) (drop left xs) (drop left ys) one more))

  pub below_none : (xs ys : List ℕ) (n : ℕ) → length xs ≤ n → length ys ≤ n → AreBelow steps (drop n xs) (drop n ys)
  below_none xs ys n h g ids are = rw (drop_whole xs n h, drop_whole ys n g) tt

-- ---- clauses as bytes

two_numbers : (text : List ℕ) (i n x m y e : ℕ) → Begins text i n → GivesAt u32 text (i + 1) x m → GivesAt u32 text m y e
    → (front : List ℕ) × (back : List ℕ) × IsUnsigned 32 x front × IsUnsigned 32 y back × (drop i text ≡ (n ∷ (front ++ back)) ++ drop e text)
two_numbers text i n x m y e begins g h =
    let (front, first, at) = unsigned_at text (i + 1) x m g in
    let (back, second, behind) = unsigned_at text m y e h in
    let whole : drop i text ≡ n ∷ drop (i + 1) text = rw begins.code_there at (drop_more text i 0 begins.inside) in
    let parts : n ∷ (front ++ (back ++ drop e text)) ≡ (n ∷ (front ++ back)) ++ drop e text = grind (arith, common_steps) in
    (front, back, first, second, whole ∙ ap (λ (r : List ℕ). n ∷ r) (at ∙ ap (λ (r : List ℕ). front ++ r) behind) ∙ parts)

one_number : (text : List ℕ) (i n x e : ℕ) → Begins text i n → GivesAt u32 text (i + 1) x e
    → (front : List ℕ) × IsUnsigned 32 x front × (drop i text ≡ (n ∷ front) ++ drop e text)
one_number text i n x e begins g =
    let (front, first, at) = unsigned_at text (i + 1) x e g in
    let whole : drop i text ≡ n ∷ drop (i + 1) text = rw begins.code_there at (drop_more text i 0 begins.inside) in
    (front, first, whole ∙ ap (λ (r : List ℕ). n ∷ r) at)

module _ (t : Tables) (text : List ℕ) (o : Open) (outer : List Open) (i e : ℕ) where
  abbrev Here : List TypeTree → Context → Context
  Here ids c = inside_all ids c t.known.flat.items (o ∷ outer)

  carries : (given ls : List ℕ) (d : ℕ) → Takes t.known.flat.items (o ∷ outer) ls d → AreBelow t.known.order given ls
      → (ids : List TypeTree) (z : Settings) (c : Context) → Fits ids z text t c → Carries (Here ids c) (types ids given) d
  carries given ls d (f, there, same) below ids z c fits =
      (types ids ls, label_there t text i e o outer ([], []) ([], []) ids c d f there ls same, below ids fits.knows.steps)

  -- what a clause with a reference gives
  with_exception : (ids : List TypeTree) (ts : List ℕ) → types ids (ts ++ 29 ∷ []) ≡ types ids ts ++ exception false ∷ []
  with_exception ids ts = map-append (type_of ids) ts (29 ∷ [])

  pub one_there : (reference : Bool) → Begins text i (if reference then 0x01 else 0x00) → (x m d : ℕ) → GivesAt u32 text (i + 1) x m → GivesAt u32 text m d e
      → (ps : List ℕ) → IsTagOf t x ps → (ls : List ℕ) → Takes t.known.flat.items (o ∷ outer) ls d → AreBelow t.known.order (caught reference ps) ls → IsCatchAt text t (o ∷ outer) i e
  one_there false begins x m d g h ps tag ls takes below =
      let (front, back, first, second, whole) = two_numbers text i 0x00 x m d e begins g h in
      record {
        clause = clause.One x d;
        front = 0x00 ∷ (front ++ back);
        spelled = record { rest = front ++ back; spelled = record { front = front; back = back; first = first; second = second; whole = refl }; whole = refl };
        whole = whole;
        fits = λ ids z c fits. (
          types ids (params_in t.known.flat.items tag.sig),
          fits.knows.tags x tag.sig tag.at tag.usable,
          subst (λ (xs : List ℕ). Carries (Here ids c) (types ids xs) d) tag.carries (carries ps ls d takes below ids z c fits),
        );
        forward = omega (arith, g.forward, h.forward);
        inside = h.inside;
      }
  one_there true begins x m d g h ps tag ls takes below =
      let (front, back, first, second, whole) = two_numbers text i 0x01 x m d e begins g h in
      record {
        clause = clause.OneRef x d;
        front = 0x01 ∷ (front ++ back);
        spelled = record { rest = front ++ back; spelled = record { front = front; back = back; first = first; second = second; whole = refl }; whole = refl };
        whole = whole;
        fits = λ ids z c fits. (
          types ids (params_in t.known.flat.items tag.sig),
          fits.knows.tags x tag.sig tag.at tag.usable,
          subst (λ (xs : List ValueType). Carries (Here ids c) xs d) (with_exception ids ps ∙ ap (λ (xs : List ℕ). types ids xs ++ exception false ∷ []) tag.carries)
              (carries (ps ++ 29 ∷ []) ls d takes below ids z c fits),
        );
        forward = omega (arith, g.forward, h.forward);
        inside = h.inside;
      }

  pub all_there : (reference : Bool) → Begins text i (if reference then 0x03 else 0x02) → (d : ℕ) → GivesAt u32 text (i + 1) d e
      → (ls : List ℕ) → Takes t.known.flat.items (o ∷ outer) ls d → AreBelow t.known.order (caught reference []) ls → IsCatchAt text t (o ∷ outer) i e
  all_there false begins d g ls takes below =
      let (front, first, whole) = one_number text i 0x02 d e begins g in
      record {
        clause = clause.All d;
        front = 0x02 ∷ front;
        spelled = record { rest = front; spelled = first; whole = refl };
        whole = whole;
        fits = λ ids z c fits. carries [] ls d takes below ids z c fits;
        forward = omega (arith, g.forward);
        inside = g.inside;
      }
  all_there true begins d g ls takes below =
      let (front, first, whole) = one_number text i 0x03 d e begins g in
      record {
        clause = clause.AllRef d;
        front = 0x03 ∷ front;
        spelled = record { rest = front; spelled = first; whole = refl };
        whole = whole;
        fits = λ ids z c fits. carries (29 ∷ []) ls d takes below ids z c fits;
        forward = omega (arith, g.forward);
        inside = g.inside;
      }

-- ---- one after the other

each_push : (g : Context) (cs : List Catch) (c : Catch) → EachCatches g cs → Catches g c → EachCatches g (cs ++ c ∷ [])
each_push g [] c h k = (k, tt)
each_push g (d ∷ cs) c h k = (h.0, each_push g cs c h.1 k)

module _ (text : List ℕ) (t : Tables) (opens : List Open) (i : ℕ) where
  pub no_catches : i ≤ length text → AreCatches text t opens i 0 i
  no_catches within = record {
    clauses = [];
    front = [];
    each = refl;
    whole = refl;
    many = refl;
    fit = λ ids z g fits. tt;
    forward = omega arith;
    inside = within;
  }

  pub catches_more : (k j n : ℕ) → AreCatches text t opens i k j → IsCatchAt text t opens j n → AreCatches text t opens i (k + 1) n
  catches_more k j n h one =
      let e : suc k ≡ k + 1 = omega arith in
      subst (λ (c : ℕ). AreCatches text t opens i c n) e (record {
        clauses = h.clauses ++ one.clause ∷ [];
        front = h.front ++ one.front;
        each = many_more SpelledCatch k h.clauses one.clause h.front one.front h.each one.spelled;
        whole = h.whole ∙ ap (λ (r : List ℕ). h.front ++ r) one.whole ∙ sym (append_assoc h.front one.front (drop n text));
        many = (let m = length_push h.clauses one.clause in omega (arith, m, h.many));
        fit = λ ids z g fits. each_push (inside_all ids g t.known.flat.items opens) h.clauses one.clause (h.fit ids z g fits) (one.fits ids z g fits);
        forward = omega (arith, h.forward, one.forward);
        inside = one.inside;
      })

-- ---- the operator

-- what is read is spelled
pub spelled_at : {A : Type 0} (d : Decoder A) (g : Grammar A) → Decides d g → (text : List ℕ) (i : ℕ) (x : A) (e : ℕ) → GivesAt d text i x e
    → (front : List ℕ) × g x front × (drop i text ≡ front ++ drop e text)
spelled_at d g decides text i x e h =
    let s : State = record { rest = drop i text; place = 0; settings = no_features; start = 0 } in
    let (front, takes, spelled) = decides.sound s (behind (e - i) s) x (h.gives s refl) in
    let whole : i + (e - i) ≡ e = omega (arith, h.forward) in
    (front, spelled, takes.parts ∙ ap (λ (r : List ℕ). front ++ r) (drop-drop (e - i) i text ∙ ap (λ (k : ℕ). drop k text) whole))

module _ (t : Tables) (text : List ℕ) (i e : ℕ) (o : Open) (outer : List Open) (v w : Values) (on : t.references ≡ true) where
  abbrev table : BlockType → (opens : List Open) (n count : ℕ) → AreCatches text t opens n count e → Op
  table bt opens n count h = op.Exception (op.TryTable (catch_table bt h.clauses))

  -- its bytes, where the limit of clauses is not passed
  try_spelled : (z : Settings) (opens : List Open) (bt : BlockType) (m count n : ℕ) → Begins text i 0x1f → GivesAt block_type text (i + 1) bt m → GivesAt u32 text m count n
      → (h : AreCatches text t opens n count e) → count ≤ z.limits.catches → (front : List ℕ) × SpelledOperator z (table bt opens n count h) front × (drop i text ≡ front ++ drop e text)
  try_spelled z opens bt m count n begins b g h few =
      let (typed, block, at) = spelled_at block_type SpelledBlock decides-block_type text (i + 1) bt m b in
      let (counted, number, behind) = unsigned_at text m count n g in
      let carried = typed ++ (counted ++ h.front) in
      let first : drop i text ≡ 0x1f ∷ drop (i + 1) text = rw begins.code_there at (drop_more text i 0 begins.inside) in
      let parts : typed ++ (counted ++ (h.front ++ drop e text)) ≡ carried ++ drop e text = grind (arith, common_steps) in (
        0x1f ∷ carried,
        record {
          canonical = refl;
          front = 0x1f ∷ [];
          back = carried;
          opcode = (refl, refl);
          carried = (
            carried,
            [],
            record {
              front = typed;
              back = counted ++ h.front;
              ty = block;
              catches = record {
                listed = record {
                  count = counted;
                  values = h.front;
                  counted = subst (λ (k : ℕ). IsUnsigned 32 k counted) (sym h.many) number;
                  each = subst (λ (k : ℕ). Many SpelledCatch k h.clauses h.front) (sym h.many) h.each;
                  whole = refl;
                };
                within = omega (arith, h.many, few);
              };
              whole = refl;
            },
            refl,
            sym (append-nil carried),
          );
          whole = refl;
        },
        first ∙ ap (λ (r : List ℕ). 0x1f ∷ r) (at ∙ ap (λ (r : List ℕ). typed ++ r) (behind ∙ ap (λ (r : List ℕ). counted ++ r) h.whole) ∙ parts),
      )

  pub took_try : Begins text i 0x1f → (bt : BlockType) (m : ℕ) → GivesAt block_type text (i + 1) bt m → (s : Sig)
      → ((ids : List TypeTree) (z : Settings) (c : Context) → Fits ids z text t c → IsBlockType c bt (signature_in ids t.known.flat.items s))
      → (count n : ℕ) → GivesAt u32 text m count n → count ≤ 100 → AreCatches text t (o ∷ outer) n count e
      → (p : Open) (others : List Open) → Enters t.known.flat.items frames.TryTable s v w o outer p others → Leads text t i (o ∷ outer) v e (p ∷ others) w
  took_try begins bt m b s typed count n g few h p others enters ids z c fits (os, rest, closes) =
      let q = table bt (o ∷ outer) n count h in
      let limit = (fits.limits on).catches in
      let (front, spelled, whole) = try_spelled z (o ∷ outer) bt m count n begins b g h (omega (arith, few, limit)) in (
        q ∷ os,
        (front, drop e text, spelled, rest, whole),
        rw enters.params (opened t text i e o outer v w ids q p (params_in t.known.flat.items p.sig) enters.under (ap Opens (sym enters.kind)) (rw enters.kind refl) c
            (rw enters.sig (typed ids z c fits))
            (of_feature c.bits q proposals.Exceptions feature.Exceptions fits.allows refl (fits.references on).exceptions refl, h.fit ids z c fits) enters.set os
            (rw (enters.frames, enters.begun) at closes)),
      )

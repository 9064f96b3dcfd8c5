-- What a parser remembers of sections agrees exactly where their counts do.
use Rattle.std.proofs.Common.{◌≡◌, ◌⊎◌, inl, inr, ℕ, ◌<◌, ◌≤◌, List, [], ◌∷◌, refl, sym, ap, ◌∙◌, subst, arith, cond, Bool, true, false, Option, Some, None}
use Rattle.std.specs.Prelude.{◌==◌}
use Rattle.std.proofs.lemmas.Bool.{eqb-true, eqb-false, eq-eqb, false_from_ne_true}
use Rattle.wasm_types.specs.decoding.Leb.{u32, IsUnsigned}
use Rattle.wasm_types.specs.decoding.LebLaws.{decides-u32}
use Rattle.wasm_sections_items.specs.frames.Outer.{Part, custom, code, section, rank, id_of, ranks, with_rank, Ascends, Counts, IsAbsent, Declares, DeclaresOrAbsent, Defines, CountsAgree}
use Rattle.wasm_sections_items.specs.frames.OuterLaws.{one}
use Rattle.wasm_sections_parser.specs.declared.progress.Progress.{Progress}
use Rattle.wasm_sections_parser.specs.Steps.{begun, has_count, said, counts_agree}
use Rattle.wasm_sections_parser.specs.runs.steps.Remembered.{fresh, Noted, AreNoted}

counts_one : (n m : ℕ) (c : List ℕ) → Counts n c → Counts m c → n ≡ m
counts_one n m c h k = (one u32 (IsUnsigned 32) decides-u32 n m c h.count h.items k.count k.items h.whole h.counted k.whole k.counted).0

pick_true : {A : Type 0} (i j : ℕ) (a b : A) → i ≡ j → cond (i == j) a b ≡ a
pick_true i j a b e = rw (eq-eqb i j e) refl

pick_false : {A : Type 0} (i j : ℕ) (a b : A) → (i ≡ j → ⊥) → cond (i == j) a b ≡ b
pick_false i j a b other = rw (false_from_ne_true (i == j) (λ e. other (eqb-true i j e))) refl

-- the places behind the first
pub behind_first : (low : ℕ) (o : Option ℕ) (rs : List ℕ) → Ascends low (with_rank o rs) → (high : ℕ) × (low ≤ high) × Ascends high rs
behind_first low None rs h = (low, omega arith, h)
behind_first low (Some r) rs h = (r, omega (arith, h.0), h.1)

-- ---- what a section of one id leaves behind

module _ (id r : ℕ) (ranked : rank id ≡ Some r) where
  place_is : (low : ℕ) (o : Option ℕ) (rs : List ℕ) → Ascends low (with_rank o rs) → o ≡ Some r → low < r
  place_is low None rs h e = absurd cc
  place_is low (Some k) rs h e = subst (λ (x : ℕ). low < x) (some_is k r e) h.0
    where
      some_is : (x y : ℕ) → Some x ≡ Some y → x ≡ y
      some_is x y q = cc

  -- behind its place it is absent
  late : (ps : List Part) (low : ℕ) → Ascends low (ranks ps) → r ≤ low → IsAbsent id ps
  late [] low h le = tt
  late (x ∷ ps) low h le =
      let b = behind_first low (rank (id_of x)) (ranks ps) h in
      (λ e. omega (arith, le, place_is low (rank (id_of x)) (ranks ps) h (ap rank e ∙ ranked)), late ps b.0 b.2 (omega (arith, le, b.1)))

  module _ {A : Type 0} (get : Progress → A) (same : (p q : Progress) → begun p ≡ begun q → get p ≡ get q)
      (keeps : (p q : Progress) (x : Part) → Noted p x q → (id_of x ≡ id → ⊥) → get q ≡ get p) where
    kept : (ps : List Part) (p q : Progress) → AreNoted p ps q → IsAbsent id ps → get q ≡ get p
    kept [] p q h a = sym (same p q h)
    kept (x ∷ ps) p q h a = kept ps h.0 q h.2 a.1 ∙ keeps p h.0 x h.1 a.0

    module _ (make : ℕ → A) (tells : (p q : Progress) (i : ℕ) (c : List ℕ) → Noted p (section i c) q → i ≡ id → (k : ℕ) × Counts k c × (get q ≡ make k)) where
      declares : (ps : List Part) (p q : Progress) (low n : ℕ) → AreNoted p ps q → Ascends low (ranks ps) → Declares id n ps → get q ≡ make n
      declares [] p q low n h o d = absurd d
      declares (custom m c ∷ ps) p q low n h o d = declares ps h.0 q low n h.2 o d
      declares (code es ∷ ps) p q low n h o d = let b = behind_first low (rank 10) (ranks ps) o in declares ps h.0 q b.0 n h.2 b.2 d
      declares (section i c ∷ ps) p q low n h o (inr d) = let b = behind_first low (rank i) (ranks ps) o in declares ps h.0 q b.0 n h.2 b.2 d
      declares (section i c ∷ ps) p q low n h o (inl d) =
          let t = tells p h.0 i c h.1 d.0 in
          let o' : Ascends low (with_rank (Some r) (ranks ps)) = subst (λ (k : Option ℕ). Ascends low (with_rank k (ranks ps))) (ap rank d.0 ∙ ranked) o in
          kept ps h.0 q h.2 (late ps r o'.1 (omega arith)) ∙ t.2 ∙ ap make (counts_one t.0 n c t.1 d.1)

      some_or : (0 ≡ id → ⊥) → (10 ≡ id → ⊥) → (ps : List Part) (p q : Progress) → AreNoted p ps q → ((n : ℕ) × Declares id n ps) ⊎ IsAbsent id ps
      some_or zero ten [] p q h = inr tt
      some_or zero ten (custom m c ∷ ps) p q h = go (some_or zero ten ps h.0 q h.2)
        where
          go : ((n : ℕ) × Declares id n ps) ⊎ IsAbsent id ps → ((n : ℕ) × Declares id n (custom m c ∷ ps)) ⊎ IsAbsent id (custom m c ∷ ps)
          go (inl d) = inl d
          go (inr a) = inr (zero, a)
      some_or zero ten (code es ∷ ps) p q h = go (some_or zero ten ps h.0 q h.2)
        where
          go : ((n : ℕ) × Declares id n ps) ⊎ IsAbsent id ps → ((n : ℕ) × Declares id n (code es ∷ ps)) ⊎ IsAbsent id (code es ∷ ps)
          go (inl d) = inl d
          go (inr a) = inr (ten, a)
      some_or zero ten (section i c ∷ ps) p q h = go (some_or zero ten ps h.0 q h.2) (i == id) refl
        where
          go : ((n : ℕ) × Declares id n ps) ⊎ IsAbsent id ps → (b : Bool) → (i == id) ≡ b → ((n : ℕ) × Declares id n (section i c ∷ ps)) ⊎ IsAbsent id (section i c ∷ ps)
          go s true e = let t = tells p h.0 i c h.1 (eqb-true _ _ e) in inl (t.0, inl (eqb-true _ _ e, t.1))
          go (inl d) false e = inl (d.0, inr d.1)
          go (inr a) false e = inr (eqb-false _ _ e, a)

      -- what is remembered is what is declared
      declared : (0 ≡ id → ⊥) → (10 ≡ id → ⊥) → (ps : List Part) (p q : Progress) (low : ℕ) → AreNoted p ps q
          → Ascends low (ranks ps) → ((n : ℕ) × Declares id n ps × (get q ≡ make n)) ⊎ (IsAbsent id ps × (get q ≡ get p))
      declared zero ten ps p q low h o = go (some_or zero ten ps p q h)
        where
          go : ((n : ℕ) × Declares id n ps) ⊎ IsAbsent id ps → ((n : ℕ) × Declares id n ps × (get q ≡ make n)) ⊎ (IsAbsent id ps × (get q ≡ get p))
          go (inl d) = inl (d.0, d.1, declares ps p q low d.0 h o d.1)
          go (inr a) = inr (a, kept ps p q h a)

-- ---- functions, data segments and their count, bodies

abbrev number : ℕ → ℕ
number n = n

keeps_functions : (p q : Progress) (x : Part) → Noted p x q → (id_of x ≡ 3 → ⊥) → q.functions ≡ p.functions
keeps_functions p q (custom m c) h other = ap (λ (v : Progress). v.functions) h
keeps_functions p q (code es) h other = ap (λ (v : Progress). v.functions) h.1
keeps_functions p q (section i c) h other = ap (λ (v : Progress). v.functions) h.2 ∙ pick_false i 3 h.0 p.functions other

keeps_segments : (p q : Progress) (x : Part) → Noted p x q → (id_of x ≡ 11 → ⊥) → q.segments ≡ p.segments
keeps_segments p q (custom m c) h other = ap (λ (v : Progress). v.segments) h
keeps_segments p q (code es) h other = ap (λ (v : Progress). v.segments) h.1
keeps_segments p q (section i c) h other = ap (λ (v : Progress). v.segments) h.2 ∙ pick_false i 11 h.0 p.segments other

keeps_data_count : (p q : Progress) (x : Part) → Noted p x q → (id_of x ≡ 12 → ⊥) → q.data_count ≡ p.data_count
keeps_data_count p q (custom m c) h other = ap (λ (v : Progress). v.data_count) h
keeps_data_count p q (code es) h other = ap (λ (v : Progress). v.data_count) h.1
keeps_data_count p q (section i c) h other = ap (λ (v : Progress). v.data_count) h.2 ∙ pick_false i 12 (Some h.0) p.data_count other

keeps_bodies : (p q : Progress) (x : Part) → Noted p x q → (id_of x ≡ 10 → ⊥) → q.bodies ≡ p.bodies
keeps_bodies p q (custom m c) h other = ap (λ (v : Progress). v.bodies) h
keeps_bodies p q (code es) h other = absurd (other refl)
keeps_bodies p q (section i c) h other = ap (λ (v : Progress). v.bodies) h.2

tells_functions : (p q : Progress) (i : ℕ) (c : List ℕ) → Noted p (section i c) q → i ≡ 3 → (k : ℕ) × Counts k c × (q.functions ≡ number k)
tells_functions p q i c h e = (h.0, h.1 (ap has_count e), ap (λ (v : Progress). v.functions) h.2 ∙ pick_true i 3 h.0 p.functions e)

tells_segments : (p q : Progress) (i : ℕ) (c : List ℕ) → Noted p (section i c) q → i ≡ 11 → (k : ℕ) × Counts k c × (q.segments ≡ number k)
tells_segments p q i c h e = (h.0, h.1 (ap has_count e), ap (λ (v : Progress). v.segments) h.2 ∙ pick_true i 11 h.0 p.segments e)

abbrev some : ℕ → Option ℕ
some n = Some n

tells_data_count : (p q : Progress) (i : ℕ) (c : List ℕ) → Noted p (section i c) q → i ≡ 12 → (k : ℕ) × Counts k c × (q.data_count ≡ some k)
tells_data_count p q i c h e = (h.0, h.1 (ap has_count e), ap (λ (v : Progress). v.data_count) h.2 ∙ pick_true i 12 (Some h.0) p.data_count e)

module _ (ps : List Part) (p q : Progress) (low : ℕ) (noted : AreNoted p ps q) (ordered : Ascends low (ranks ps)) where
  functions : ((n : ℕ) × Declares 3 n ps × (q.functions ≡ n)) ⊎ (IsAbsent 3 ps × (q.functions ≡ p.functions))
  functions = declared 3 3 refl (λ v. v.functions)
      (λ v w e. ap (λ (y : Progress). y.functions) e) keeps_functions number tells_functions (λ e. omega (arith, e))
      (λ e. omega (arith, e)) ps p q low noted ordered

  segments : ((n : ℕ) × Declares 11 n ps × (q.segments ≡ n)) ⊎ (IsAbsent 11 ps × (q.segments ≡ p.segments))
  segments = declared 11 13 refl (λ v. v.segments)
      (λ v w e. ap (λ (y : Progress). y.segments) e) keeps_segments number tells_segments (λ e. omega (arith, e))
      (λ e. omega (arith, e)) ps p q low noted ordered

  pub data_count : ((n : ℕ) × Declares 12 n ps × (q.data_count ≡ Some n)) ⊎ (IsAbsent 12 ps × (q.data_count ≡ p.data_count))
  data_count = declared 12 11 refl (λ v. v.data_count)
      (λ v w e. ap (λ (y : Progress). y.data_count) e) keeps_data_count some tells_data_count (λ e. omega (arith, e))
      (λ e. omega (arith, e)) ps p q low noted ordered

-- what is remembered stays after its place
pub functions_after : (ps : List Part) (p q : Progress) (low : ℕ) → AreNoted p ps q → Ascends low (ranks ps) → 3 ≤ low → q.functions ≡ p.functions
functions_after ps p q low h o le = kept 3 3 refl (λ v. v.functions) (λ v w e. ap (λ (y : Progress). y.functions) e) keeps_functions ps p q h (late 3 3 refl ps low o le)

pub bodies_after : (ps : List Part) (p q : Progress) (low : ℕ) → AreNoted p ps q → Ascends low (ranks ps) → 12 ≤ low → q.bodies ≡ p.bodies
bodies_after ps p q low h o le = kept 10 12 refl (λ v. v.bodies) (λ v w e. ap (λ (y : Progress). y.bodies) e) keeps_bodies ps p q h (late 10 12 refl ps low o le)

pub segments_after : (ps : List Part) (p q : Progress) (low : ℕ) → AreNoted p ps q → Ascends low (ranks ps) → 13 ≤ low → q.segments ≡ p.segments
segments_after ps p q low h o le = kept 11 13 refl (λ v. v.segments) (λ v w e. ap (λ (y : Progress). y.segments) e) keeps_segments ps p q h (late 11 13 refl ps low o le)

pub announced_after : (ps : List Part) (p q : Progress) (low : ℕ) → AreNoted p ps q → Ascends low (ranks ps) → 11 ≤ low → q.data_count ≡ p.data_count
announced_after ps p q low h o le = kept 12 11 refl (λ v. v.data_count) (λ v w e. ap (λ (y : Progress). y.data_count) e) keeps_data_count ps p q h (late 12 11 refl ps low o le)

-- as many bodies stand as are remembered
defined : (ps : List Part) (p q : Progress) (low : ℕ) → AreNoted p ps q → Ascends low (ranks ps) → p.bodies ≡ 0 → Defines q.bodies ps
defined [] p q low h o e = ap (λ (v : Progress). v.bodies) (sym h) ∙ e
defined (custom m c ∷ ps) p q low h o e = defined ps h.0 q low h.2 o (ap (λ (v : Progress). v.bodies) h.1 ∙ e)
defined (section i c ∷ ps) p q low h o e = let b = behind_first low (rank i) (ranks ps) o in defined ps h.0 q b.0 h.2 b.2 (ap (λ (v : Progress). v.bodies) h.1.2 ∙ e)
defined (code es ∷ ps) p q low h o e =
    kept 10 12 refl (λ v. v.bodies) (λ v w k. ap (λ (y : Progress). y.bodies) k) keeps_bodies ps h.0 q h.2 (late 10 12 refl ps 12 o.1 (omega arith)) ∙ ap (λ (v : Progress). v.bodies) h.1.1

one_defined : (ps : List Part) (n m : ℕ) → Defines n ps → Defines m ps → n ≡ m
one_defined [] n m h k = h ∙ sym k
one_defined (code es ∷ ps) n m h k = h ∙ sym k
one_defined (custom c d ∷ ps) n m h k = one_defined ps n m h k
one_defined (section i c ∷ ps) n m h k = one_defined ps n m h k

-- ---- the counts of a module

module _ (ps : List Part) (p q : Progress) (first : begun p ≡ begun fresh) (noted : AreNoted p ps q) (ordered : Ascends 0 (ranks ps)) where
  no_functions : p.functions ≡ 0
  no_functions = ap (λ (v : Progress). v.functions) first

  no_segments : p.segments ≡ 0
  no_segments = ap (λ (v : Progress). v.segments) first

  no_data_count : p.data_count ≡ None
  no_data_count = ap (λ (v : Progress). v.data_count) first

  bodies_defined : Defines q.bodies ps
  bodies_defined = defined ps p q 0 noted ordered (ap (λ (v : Progress). v.bodies) first)

  pub functions_declared : DeclaresOrAbsent 3 q.functions ps
  functions_declared = go (functions ps p q 0 noted ordered)
    where
      go : ((n : ℕ) × Declares 3 n ps × (q.functions ≡ n)) ⊎ (IsAbsent 3 ps × (q.functions ≡ p.functions)) → DeclaresOrAbsent 3 q.functions ps
      go (inl d) = inl (subst (λ (n : ℕ). Declares 3 n ps) (sym d.2) d.1)
      go (inr a) = inr (a.1 ∙ no_functions, a.0)

  segments_declared : DeclaresOrAbsent 11 q.segments ps
  segments_declared = go (segments ps p q 0 noted ordered)
    where
      go : ((n : ℕ) × Declares 11 n ps × (q.segments ≡ n)) ⊎ (IsAbsent 11 ps × (q.segments ≡ p.segments)) → DeclaresOrAbsent 11 q.segments ps
      go (inl d) = inl (subst (λ (n : ℕ). Declares 11 n ps) (sym d.2) d.1)
      go (inr a) = inr (a.1 ∙ no_segments, a.0)

  -- what is declared is what is remembered
  pub functions_are : (n : ℕ) → DeclaresOrAbsent 3 n ps → q.functions ≡ n
  functions_are n (inl d) = declares 3 3 refl (λ v. v.functions) (λ v w e. ap (λ (y : Progress). y.functions) e) keeps_functions number tells_functions ps p q 0 n noted ordered d
  functions_are n (inr a) = kept 3 3 refl (λ v. v.functions) (λ v w e. ap (λ (y : Progress). y.functions) e) keeps_functions ps p q noted a.1 ∙ no_functions ∙ sym a.0

  pub segments_are : (n : ℕ) → DeclaresOrAbsent 11 n ps → q.segments ≡ n
  segments_are n (inl d) = declares 11 13 refl (λ v. v.segments) (λ v w e. ap (λ (y : Progress). y.segments) e) keeps_segments number tells_segments ps p q 0 n noted ordered d
  segments_are n (inr a) = kept 11 13 refl (λ v. v.segments) (λ v w e. ap (λ (y : Progress). y.segments) e) keeps_segments ps p q noted a.1 ∙ no_segments ∙ sym a.0

  pub data_count_is : (n : ℕ) → Declares 12 n ps → q.data_count ≡ Some n
  data_count_is n d = declares 12 11 refl (λ v. v.data_count) (λ v w e. ap (λ (y : Progress). y.data_count) e) keeps_data_count some tells_data_count ps p q 0 n noted ordered d

  pub both_agree : counts_agree q ≡ true → (q.functions ≡ q.bodies) × (said q.data_count q.segments ≡ true)
  both_agree e = go (q.functions == q.bodies) refl e
    where
      go : (b : Bool) → (q.functions == q.bodies) ≡ b → cond b (said q.data_count q.segments) false ≡ true → (q.functions ≡ q.bodies) × (said q.data_count q.segments ≡ true)
      go true f g = (eqb-true _ _ f, g)
      go false f g = absurd cc

  pub agreed : counts_agree q ≡ true → CountsAgree ps
  agreed e =
      let b = both_agree e in
      record { functions = q.functions; declared = functions_declared; defined = subst (λ (n : ℕ). Defines n ps) (sym b.0) bodies_defined; segments = λ n d. announced n d b.1 }
    where
      announced : (n : ℕ) → Declares 12 n ps → said q.data_count q.segments ≡ true → DeclaresOrAbsent 11 n ps
      announced n d f =
          let same : (n == q.segments) ≡ true = ap (λ (o : Option ℕ). said o q.segments) (sym (data_count_is n d)) ∙ f in
          subst (λ (k : ℕ). DeclaresOrAbsent 11 k ps) (sym (eqb-true _ _ same)) segments_declared

  pub agree : CountsAgree ps → counts_agree q ≡ true
  agree c = rw (eq-eqb q.functions q.bodies (functions_are c.functions c.declared ∙ one_defined ps c.functions q.bodies c.defined bodies_defined)) (go (data_count ps p q 0 noted ordered))
    where
      go : ((n : ℕ) × Declares 12 n ps × (q.data_count ≡ Some n)) ⊎ (IsAbsent 12 ps × (q.data_count ≡ p.data_count)) → said q.data_count q.segments ≡ true
      go (inl d) = ap (λ (o : Option ℕ). said o q.segments) d.2 ∙ eq-eqb d.0 q.segments (sym (segments_are d.0 (c.segments d.0 d.1)))
      go (inr a) = ap (λ (o : Option ℕ). said o q.segments) (a.1 ∙ no_data_count)

-- What a parser compares of sections agrees exactly if the counts of those that are there do.
use Rattle.std.proofs.Common.{◌≡◌, ◌⊎◌, inl, inr, ℕ, List, [], ◌∷◌, length, refl, sym, ap, ◌∙◌, subst, arith, cond, Bool, true, false, Option, Some, None}
use Rattle.std.specs.Prelude.{◌==◌}
use Rattle.std.proofs.lemmas.Bool.{eqb-true, eq-eqb}
use Rattle.wasm_sections_items.specs.frames.Outer.{Part, custom, code, section, rank, ranks, with_rank, Ascends, IsAbsent, Declares, DeclaresOrAbsent, CountsAgree}
use Rattle.wasm_sections_parser.specs.declared.progress.Progress.{Progress}
use Rattle.wasm_sections_parser.specs.Steps.{counted, in_code, begun, has_count, is_announced, said}
use Rattle.wasm_sections_parser.specs.runs.steps.Remembered.{fresh, Noted, AreNoted, Compared, AreRead, HasBodies, CountsFit}
use Rattle.wasm_sections_parser.specs.runs.steps.NoteLaws.{
  behind_first,
  functions_after,
  bodies_after,
  segments_after,
  announced_after,
  data_count,
  segments_are,
  functions_are,
  data_count_is,
  functions_declared,
  both_agree,
  agree,
}
use Rattle.wasm_sections_parser.specs.runs.calls.Runs.{AreCounted}

-- what is read is noted
pub read_noted : (ps : List Part) (p q : Progress) → AreRead p ps q → AreNoted p ps q
read_noted [] p q h = h
read_noted (x ∷ ps) p q h = (h.0, h.1, read_noted ps h.0 q h.3)

-- counts that can be read are noted
noted_all : (ps : List Part) (p : Progress) → AreCounted ps → (q : Progress) × AreNoted p ps q
noted_all [] p k = (p, refl)
noted_all (custom n c ∷ ps) p k = let r = noted_all ps (counted p 0 0) k.1 in (r.0, (counted p 0 0, refl, r.1))
noted_all (code es ∷ ps) p k = let r = noted_all ps (in_code p (length es) 0) k.1 in (r.0, (in_code p (length es) 0, (0, refl), r.1))
noted_all (section id c ∷ ps) p k = go (λ s. noted_all ps s k.1) (has_count id) refl
  where
    go : ((s : Progress) → (q : Progress) × AreNoted s ps q) → (b : Bool) → has_count id ≡ b → (q : Progress) × AreNoted p (section id c ∷ ps) q
    go rest true f =
        let n = k.0 f in
        let r = rest (counted p id n.0) in
        (r.0, (counted p id n.0, (n.0, λ g. n.1, refl), r.1))
    go rest false f = let r = rest (counted p id 0) in (r.0, (counted p id 0, (0, λ g. absurd cc, refl), r.1))

-- ---- what agrees as it is read

-- wherever these sections are noted, what is compared agrees
abbrev pub Compares : Progress → List Part → Type 0
Compares p [] = Unit {0}
Compares p (x ∷ ps) = (r : Progress) → Noted p x r → Compared x r × Compares r ps

compares : (ps : List Part) (p : Progress) (low : ℕ) → Ascends low (ranks ps) → AreCounted ps
    → ((n : ℕ) → HasBodies n ps → (q : Progress) → AreNoted p ps q → q.functions ≡ n)
    → ((m : ℕ) → Declares 11 m ps → (q : Progress) → AreNoted p ps q → said q.data_count q.segments ≡ true) → Compares p ps
compares [] p low o k bodies segments = tt
compares (custom n c ∷ ps) p low o k bodies segments = λ r h. (tt, compares ps r low o k.1 (λ n b q a. bodies n b q (r, h, a)) (λ m d q a. segments m d q (r, h, a)))
compares (code es ∷ ps) p low o k bodies segments = λ r h.
    let q = noted_all ps r k.1 in
    let counts : q.0.functions ≡ length es = bodies (length es) (inl refl) q.0 (r, h, q.1) in
    let same : q.0.functions ≡ r.functions = functions_after ps r q.0 12 q.1 o.1 (omega arith) in
    let many : r.bodies ≡ length es = ap (λ (v : Progress). v.bodies) h.1 in
    (sym same ∙ counts ∙ sym many, compares ps r 12 o.1 k.1 (λ n b v a. bodies n (inr b) v (r, h, a)) (λ m d v a. segments m d v (r, h, a)))
compares (section i c ∷ ps) p low o k bodies segments = λ r h.
    let b = behind_first low (rank i) (ranks ps) o in
    (go r h (i == 11) refl, compares ps r b.0 b.2 k.1 (λ n b v a. bodies n b v (r, h, a)) (λ m d v a. segments m (inr d) v (r, h, a)))
  where
    eleven : (r : Progress) → Noted p (section i c) r → i ≡ 11 → said r.data_count r.segments ≡ true
    eleven r h e =
        let q = noted_all ps r k.1 in
        let late : Ascends low (with_rank (Some 13) (ranks ps)) = subst (λ (x : Option ℕ). Ascends low (with_rank x (ranks ps))) (ap rank e) o in
        let there = announced_after ps r q.0 13 q.1 late.1 (omega arith) in
        let many = segments_after ps r q.0 13 q.1 late.1 (omega arith) in
        (λ j. said (sym there j) (sym many j)) ∙ segments h.0 (inl (e, h.1 (ap has_count e))) q.0 (r, h, q.1)

    go : (r : Progress) → Noted p (section i c) r → (b : Bool) → (i == 11) ≡ b → cond b (said r.data_count r.segments) true ≡ true
    go r h true e = eleven r h (eqb-true i 11 e)
    go r h false e = refl

-- ---- whole modules

-- as many bodies are remembered as there are
bodies_are : (ps : List Part) (p q : Progress) (low n : ℕ) → AreNoted p ps q → Ascends low (ranks ps) → HasBodies n ps → q.bodies ≡ n
bodies_are [] p q low n h o b = absurd b
bodies_are (custom m c ∷ ps) p q low n h o b = bodies_are ps h.0 q low n h.2 o b
bodies_are (section i c ∷ ps) p q low n h o b = let f = behind_first low (rank i) (ranks ps) o in bodies_are ps h.0 q f.0 n h.2 f.2 b
bodies_are (code es ∷ ps) p q low n h o (inl e) = bodies_after ps h.0 q 12 h.2 o.1 (omega arith) ∙ ap (λ (v : Progress). v.bodies) h.1.1 ∙ sym e
bodies_are (code es ∷ ps) p q low n h o (inr b) = bodies_are ps h.0 q 12 n h.2 o.1 b

-- if the counts of a module agree, so does what is compared
pub module_compares : (ps : List Part) → Ascends 0 (ranks ps) → AreCounted ps → CountsAgree ps → Compares (begun fresh) ps
module_compares ps o k counts = compares ps (begun fresh) 0 o k
    (λ n b q a. (both q a).0 ∙ bodies_are ps (begun fresh) q 0 n a o b)
    (λ m d q a. (both q a).1)
  where
    both : (q : Progress) → AreNoted (begun fresh) ps q → (q.functions ≡ q.bodies) × (said q.data_count q.segments ≡ true)
    both q a = both_agree ps (begun fresh) q refl a o (agree ps (begun fresh) q refl a o counts)

-- ---- fronts of modules

pub front_compares : (ps : List Part) → Ascends 0 (ranks ps) → AreCounted ps → CountsFit ps → Compares (begun fresh) ps
front_compares ps o k fit = compares ps (begun fresh) 0 o k (λ n b q a. functions_are ps (begun fresh) q refl a o n (fit.bodies n b)) fits
  where
    fits : (m : ℕ) → Declares 11 m ps → (q : Progress) → AreNoted (begun fresh) ps q → said q.data_count q.segments ≡ true
    fits m d q a = go (data_count ps (begun fresh) q 0 a o)
      where
        go : ((n : ℕ) × Declares 12 n ps × (q.data_count ≡ Some n)) ⊎ (IsAbsent 12 ps × (q.data_count ≡ None)) → said q.data_count q.segments ≡ true
        go (inl x) = ap (λ (v : Option ℕ). said v q.segments) x.2 ∙ eq-eqb x.0 q.segments (fit.segments x.0 m x.1 d ∙ sym (segments_are ps (begun fresh) q refl a o m (inl d)))
        go (inr x) = ap (λ (v : Option ℕ). said v q.segments) x.1

-- and what was read agrees so
read_bodies : (ps : List Part) (p q : Progress) (low n : ℕ) → AreRead p ps q → Ascends low (ranks ps) → HasBodies n ps → q.functions ≡ n
read_bodies [] p q low n h o b = absurd b
read_bodies (custom m c ∷ ps) p q low n h o b = read_bodies ps h.0 q low n h.3 o b
read_bodies (section i c ∷ ps) p q low n h o b = let f = behind_first low (rank i) (ranks ps) o in read_bodies ps h.0 q f.0 n h.3 f.2 b
read_bodies (code es ∷ ps) p q low n h o (inl e) =
    functions_after ps h.0 q 12 (read_noted ps h.0 q h.3) o.1 (omega arith) ∙ h.2 ∙ ap (λ (v : Progress). v.bodies) h.1.1 ∙ sym e
read_bodies (code es ∷ ps) p q low n h o (inr b) = read_bodies ps h.0 q 12 n h.3 o.1 b

read_segments : (ps : List Part) (p q : Progress) (low m : ℕ) → AreRead p ps q → Ascends low (ranks ps) → Declares 11 m ps → said q.data_count q.segments ≡ true
read_segments [] p q low m h o d = absurd d
read_segments (custom n c ∷ ps) p q low m h o d = read_segments ps h.0 q low m h.3 o d
read_segments (code es ∷ ps) p q low m h o d = read_segments ps h.0 q 12 m h.3 o.1 d
read_segments (section i c ∷ ps) p q low m h o (inr d) = let f = behind_first low (rank i) (ranks ps) o in read_segments ps h.0 q f.0 m h.3 f.2 d
read_segments (section i c ∷ ps) p q low m h o (inl d) =
    let late : Ascends low (with_rank (Some 13) (ranks ps)) = subst (λ (x : Option ℕ). Ascends low (with_rank x (ranks ps))) (ap rank d.0) o in
    let noted = read_noted ps h.0 q h.3 in
    let there = announced_after ps h.0 q 13 noted late.1 (omega arith) in
    let many = segments_after ps h.0 q 13 noted late.1 (omega arith) in
    (λ j. said (there j) (many j)) ∙ ap (λ (k : ℕ). is_announced k h.0) (sym d.0) ∙ h.2

pub read_fits : (ps : List Part) (q : Progress) → AreRead (begun fresh) ps q → Ascends 0 (ranks ps) → CountsFit ps
read_fits ps q read o =
    let noted = read_noted ps (begun fresh) q read in
    record {
      bodies = λ n b. subst (λ (k : ℕ). DeclaresOrAbsent 3 k ps) (read_bodies ps (begun fresh) q 0 n read o b) (functions_declared ps (begun fresh) q refl noted o);
      segments = λ n m d s.
          let there = data_count_is ps (begun fresh) q refl noted o n d in
          let many = segments_are ps (begun fresh) q refl noted o m (inl s) in
          let same : (n == m) ≡ true = (λ j. said (sym there j) (sym many j)) ∙ read_segments ps (begun fresh) q 0 m read o s in
          eqb-true n m same;
    }

-- as many functions are remembered as are declared
pub read_functions : (ps : List Part) (q : Progress) → AreRead (begun fresh) ps q → Ascends 0 (ranks ps) → DeclaresOrAbsent 3 q.functions ps
read_functions ps q read o = functions_declared ps (begun fresh) q refl (read_noted ps (begun fresh) q read) o

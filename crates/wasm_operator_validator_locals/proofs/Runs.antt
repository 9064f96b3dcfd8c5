-- Runs of locals: one more at the end, and the run that has a local.
use Rattle.std.proofs.Common.{
  ◌≡◌,
  ℕ,
  zero,
  suc,
  ◌+◌,
  ◌-◌,
  ◌<◌,
  ◌≤◌,
  ◌^◌,
  List,
  [],
  ◌∷◌,
  ◌++◌,
  Some,
  None,
  true,
  false,
  leb,
  length,
  take,
  drop,
  get_or,
  replicate,
  refl,
  sym,
  ap,
  ◌∙◌,
  arith,
  subst,
  append_assoc,
  slice_get,
  option_map,
}
use Rattle.std.proofs.lemmas.List.{append-nil, length-append, length-replicate, length-take, take_all, take-append-drop}
use Rattle.std.proofs.Math.Seq.{take-append_seam}
use Rattle.std.proofs.lemmas.Bool.{leb-true, leb-false, le-leb}
use Rattle.std.proofs.lemmas.Option.{slice_get_past, slice_get_read}
use Rattle.std.specs.List.Sorted.{IsPartitionPoint, IsPartitionedBy}
use Rattle.wasm_types.specs.values.declared.value.ValType.{ValType}
use Rattle.wasm_operator_validator_locals.specs.declared.locals.Run.{Run}
use Rattle.wasm_operator_validator_locals.specs.Locals.{locals_from, AreRunsFrom, IsFront}

-- where the last run ends
abbrev pub end_from : ℕ → List Run → ℕ
end_from start [] = start
end_from start (r ∷ rs) = end_from r.end rs

pub end_above : (start : ℕ) (rs : List Run) → AreRunsFrom start rs → (start ≤ end_from start rs) × (end_from start rs < 2 ^ 32)
end_above start [] a = (omega arith, a)
end_above start (r ∷ rs) a = let e = end_above r.end rs a.1 in (omega (arith, a.0, e.0), e.1)

pub length-locals_from : (start : ℕ) (rs : List Run) → AreRunsFrom start rs → start + length (locals_from start rs) ≡ end_from start rs
length-locals_from start [] a = omega arith
length-locals_from start (r ∷ rs) a =
    omega (arith, a.0, length-locals_from r.end rs a.1, length-append (replicate (r.end - start) r.ty) (locals_from r.end rs), length-replicate (r.end - start) r.ty)

pub end_from-last : (start : ℕ) (rs : List Run) (r : Run) → slice_get rs (length rs - 1) ≡ Some r → end_from start rs ≡ r.end
end_from-last start [] r e = absurd cc
end_from-last start (q ∷ []) r e = let s : q ≡ r = cc in ap (λ (x : Run). x.end) s
end_from-last start (q ∷ p ∷ rs) r e =
    let k : suc (suc (length rs)) - 1 ≡ suc (suc (length rs) - 1) = omega arith in
    let e' : slice_get (p ∷ rs) (suc (length rs) - 1) ≡ Some r = rw k at e in
    end_from-last q.end (p ∷ rs) r e'

-- one more run
pub runs_more : (start : ℕ) (rs : List Run) (r : Run) → AreRunsFrom start rs → end_from start rs ≤ r.end → r.end < 2 ^ 32 → AreRunsFrom start (rs ++ r ∷ [])
runs_more start [] r a le within = (le, within)
runs_more start (q ∷ rs) r a le within = (a.0, runs_more q.end rs r a.1 le within)

pub locals_more : (start : ℕ) (rs : List Run) (r : Run) → locals_from start (rs ++ r ∷ []) ≡ locals_from start rs ++ replicate (r.end - end_from start rs) r.ty
locals_more start [] r = append-nil (replicate (r.end - start) r.ty)
locals_more start (q ∷ rs) r =
    ap (λ (xs : List ValType). replicate (q.end - start) q.ty ++ xs) (locals_more q.end rs r)
    ∙ sym (append_assoc (replicate (q.end - start) q.ty) (locals_from q.end rs)
    (replicate (r.end - end_from q.end rs) r.ty))

-- ---- a local by its index

get-replicate_front : (n : ℕ) (t : ValType) (ts : List ValType) (k : ℕ) → k < n → slice_get (replicate n t ++ ts) k ≡ Some t
get-replicate_front zero t ts k h = absurd (omega arith)
get-replicate_front (suc n) t ts zero h = refl
get-replicate_front (suc n) t ts (suc k) h = get-replicate_front n t ts k (omega arith)

get-replicate_back : (n : ℕ) (t : ValType) (ts : List ValType) (k : ℕ) → slice_get (replicate n t ++ ts) (n + k) ≡ slice_get ts k
get-replicate_back zero t ts k = let e : 0 + k ≡ k = omega arith in rw e refl
get-replicate_back (suc n) t ts k = let e : suc n + k ≡ suc (n + k) = omega arith in rw e (get-replicate_back n t ts k)

abbrev pub Ends : ℕ → List Run → ℕ → Type 0
Ends index rs i = IsPartitionPoint (λ (r : Run). leb r.end index ≡ true) (λ (r : Run). leb r.end index ≡ false) rs i

tail_ends : (index : ℕ) (r : Run) (rs : List Run) (i : ℕ) → Ends index (r ∷ rs) (suc i) → Ends index rs i
tail_ends index r rs i p = (
  λ k d low high. p.0 (suc k) d (omega arith) (omega arith),
  λ k d low high. p.1 (suc k) d (omega arith) (omega arith),
)

-- the run that a search finds has the local
pub local_found : (start : ℕ) (rs : List Run) (index i : ℕ) → AreRunsFrom start rs → start ≤ index → i ≤ length rs → Ends index rs i
    → slice_get (locals_from start rs) (index - start) ≡ option_map (λ (r : Run). r.ty) (slice_get rs i)
local_found start [] index i a le bound p = refl
local_found start (r ∷ rs) index zero a le bound p =
    let above : index < r.end = leb-false _ _ (p.1 0 r (omega arith) (omega arith)) in
    get-replicate_front (r.end - start) r.ty (locals_from r.end rs) (index - start) (omega (arith, a.0))
local_found start (r ∷ rs) index (suc i) a le bound p =
    let below : r.end ≤ index = leb-true _ _ (p.0 0 r (omega arith) (omega arith)) in
    let e : index - start ≡ (r.end - start) + (index - r.end) = omega (arith, a.0) in
    rw e (get-replicate_back (r.end - start) r.ty (locals_from r.end rs) (index - r.end) ∙ local_found r.end rs index i a.1 below (omega arith) (tail_ends index r rs i p))

-- runs end one after the other
ends_above : (start : ℕ) (rs : List Run) → AreRunsFrom start rs → (k : ℕ) (d : Run) → k < length rs → start ≤ (get_or rs k d).end
ends_above start [] a k d h = absurd (omega arith)
ends_above start (r ∷ rs) a zero d h = a.0
ends_above start (r ∷ rs) a (suc k) d h = omega (arith, a.0, ends_above r.end rs a.1 k d (omega arith))

ends_rise : (start : ℕ) (rs : List Run) → AreRunsFrom start rs → (i j : ℕ) (d : Run) → i ≤ j → j < length rs → (get_or rs i d).end ≤ (get_or rs j d).end
ends_rise start [] a i j d le h = absurd (omega arith)
ends_rise start (r ∷ rs) a zero zero d le h = omega arith
ends_rise start (r ∷ rs) a zero (suc j) d le h = ends_above r.end rs a.1 j d (omega arith)
ends_rise start (r ∷ rs) a (suc i) zero d le h = absurd (omega arith)
ends_rise start (r ∷ rs) a (suc i) (suc j) d le h = ends_rise r.end rs a.1 i j d (omega arith) (omega arith)

pub ends_partitioned : (start : ℕ) (rs : List Run) (index : ℕ) → AreRunsFrom start rs → IsPartitionedBy (λ (r : Run). leb r.end index) rs
ends_partitioned start rs index a i j d le h up = le-leb _ _ (let e = ends_rise start rs a i j d le h in let f = leb-true _ _ up in omega arith)

-- what comes after others is found by its place among all
get_after : (ps ts : List ValType) (k : ℕ) → length ps ≤ k → slice_get (ps ++ ts) k ≡ slice_get ts (k - length ps)
get_after [] ts k h = let e : k - 0 ≡ k = omega arith in rw e refl
get_after (p ∷ ps) ts zero h = absurd (omega arith)
get_after (p ∷ ps) ts (suc k) h = let e : suc k - suc (length ps) ≡ k - length ps = omega arith in rw e (get_after ps ts k (omega arith))

-- the same of a local that comes after parameters
pub local_at : (ps : List ValType) (rs : List Run) (index i : ℕ) → AreRunsFrom (length ps) rs → length ps ≤ index → i ≤ length rs → Ends index rs i
    → slice_get (ps ++ locals_from (length ps) rs) index ≡ option_map (λ (r : Run). r.ty) (slice_get rs i)
local_at ps rs index i a after bound p = get_after ps (locals_from (length ps) rs) index after ∙ local_found (length ps) rs index i a after bound p

-- ---- what the code knows

-- parameters, and the locals after them
abbrev pub locals_of : List ValType → List Run → List ValType
locals_of ps rs = ps ++ locals_from (length ps) rs

length-locals_of : (ps : List ValType) (rs : List Run) → AreRunsFrom (length ps) rs → length (locals_of ps rs) ≡ end_from (length ps) rs
length-locals_of ps rs a = omega (arith, length-append ps (locals_from (length ps) rs), length-locals_from (length ps) rs a)

pub last_end : (ps : List ValType) (rs items : List Run) (r : Run) (ts : List ValType) → rs ≡ items → Some r ≡ slice_get rs (length rs - 1)
    → AreRunsFrom (length ps) items → locals_of ps items ≡ ts → r.end ≡ length ts
last_end ps rs items r ts same e a is =
    let last : slice_get items (length items - 1) ≡ Some r = rw same at (sym e) in
    let end = end_from-last (length ps) items r last in
    omega (arith, end, length-locals_of ps items a, ap (λ (x : List ValType). length x) is)

-- one more run at the end of all
pub run_fits : (ps : List ValType) (items : List Run) (ts : List ValType) (n count : ℕ) (t : ValType) → AreRunsFrom (length ps) items
    → locals_of ps items ≡ ts → n ≡ length ts → n + count < 2 ^ 32
    → AreRunsFrom (length ps) (items ++ record { end = n + count; ty = t } ∷ [])
    × (locals_of ps (items ++ record { end = n + count; ty = t } ∷ []) ≡ ts ++ replicate count t)
run_fits ps items ts n count t a is e fits =
    let k : end_from (length ps) items ≡ n = omega (arith, e, length-locals_of ps items a, ap (λ (x : List ValType). length x) is) in
    let more : (n + count) - end_from (length ps) items ≡ count = omega (arith, k) in
    let r : Run = record { end = n + count; ty = t } in
    let split = sym (append_assoc ps (locals_from (length ps) items) (replicate ((n + count) - end_from (length ps) items) t)) in (
      runs_more (length ps) items r a (omega (arith, k)) (omega (arith, fits)),
      ap (λ (xs : List ValType). ps ++ xs) (locals_more (length ps) items r) ∙ split ∙ rw (more, is) refl,
    )

-- a run that was put at the end is taken off again
pub taken_back : (rs held more back : List Run) (r : Run) → held ≡ rs → more ≡ rs ++ r ∷ [] → back ≡ take (length held) more → back ≡ rs
taken_back rs held more back r e f g = (rw (f, e) at g) ∙ take-append_seam rs (r ∷ [])

pub local_past : (ps : List ValType) (rs items : List Run) (ts : List ValType) (index i : ℕ) → rs ≡ items → AreRunsFrom (length ps) items
    → locals_of ps items ≡ ts → length ps ≤ index → i ≡ length rs → Ends index rs i → None ≡ slice_get ts index
local_past ps rs items ts index i same a is after past p =
    let p' : Ends index items i = subst (λ (x : List Run). Ends index x i) same p in
    let k : i ≡ length items = past ∙ ap (λ (x : List Run). length x) same in
    let e = local_at ps items index i a after (omega (arith, k)) p' in
    let none = slice_get_past items i (omega (arith, k)) in
    sym (subst (λ (x : List ValType). slice_get x index ≡ None) is (e ∙ ap (option_map (λ (r : Run). r.ty)) none))

pub local_here : (ps : List ValType) (rs items : List Run) (ts : List ValType) (index i : ℕ) (r : Run) → rs ≡ items
    → AreRunsFrom (length ps) items → locals_of ps items ≡ ts → length ps ≤ index → i < length items → r ≡ get_or items i r
    → Ends index rs i → Some r.ty ≡ slice_get ts index
local_here ps rs items ts index i r same a is after h at p =
    let p' : Ends index items i = subst (λ (x : List Run). Ends index x i) same p in
    let e = local_at ps items index i a after (omega (arith, h)) p' in
    let some = slice_get_read items (length items) i r refl h at in
    sym (subst (λ (x : List ValType). slice_get x index ≡ Some r.ty) is (e ∙ ap (option_map (λ (q : Run). q.ty)) some))

-- ---- the first locals

-- what is among the first is there among all
pub front_get : (front all : List ValType) (k : ℕ) → IsFront front all → k < length front → slice_get all k ≡ slice_get front k
front_get front all k f lt = rw f.1 (go front f.0 k lt)
  where
    go : (front rest : List ValType) (k : ℕ) → k < length front → slice_get (front ++ rest) k ≡ slice_get front k
    go [] rest k lt = absurd (omega arith)
    go (t ∷ ts) rest zero lt = refl
    go (t ∷ ts) rest (suc k) lt = go ts rest k (omega arith)

-- more at the end leave the first as they are
pub front_kept : (front all more : List ValType) → IsFront front all → IsFront front (all ++ more)
front_kept front all more f = (f.0 ++ more, ap (λ (xs : List ValType). xs ++ more) f.1 ∙ append_assoc front f.0 more)

nothing_left : (rest : List ValType) → length rest ≡ 0 → rest ≡ []
nothing_left [] e = refl
nothing_left (t ∷ ts) e = absurd (omega (arith, e))

-- where the first are all, some of what comes at the end are the next of them
pub front_grown : (front all : List ValType) (t : ValType) (k count : ℕ) → IsFront front all → length front ≡ length all
    → k ≤ count → IsFront (front ++ replicate k t) (all ++ replicate count t)
front_grown front all t k count f same le =
    let none : f.0 ≡ [] = nothing_left f.0 (omega (arith, same, ap (λ (xs : List ValType). length xs) f.1, length-append front f.0)) in
    let whole : all ≡ front = f.1 ∙ ap (λ (xs : List ValType). front ++ xs) none ∙ append-nil front in (
      replicate (count - k) t,
      ap (λ (xs : List ValType). xs ++ replicate count t) whole
          ∙ ap (λ (xs : List ValType). front ++ xs) (split k count le)
          ∙ sym (append_assoc front (replicate k t) (replicate (count - k) t)),
    )
  where
    split : (k count : ℕ) → k ≤ count → replicate count t ≡ replicate k t ++ replicate (count - k) t
    split zero count le = let e : count - 0 ≡ count = omega arith in rw e refl
    split (suc k) zero le = absurd (omega arith)
    split (suc k) (suc count) le = let e : suc count - suc k ≡ count - k = omega arith in rw e (ap (λ (xs : List ValType). t ∷ xs) (split k count (omega arith)))

pub front_resized : (front us all : List ValType) (t : ValType) (len v more count : ℕ) → IsFront front all → length all ≡ len
    → length front ≡ len → v ≡ len → more ≤ count → us ≡ take (len + more) front ++ replicate (len + more - v) t
    → IsFront us (all ++ replicate count t)
front_resized front us all t len v more count f whole held is le e =
    let whole_front : take (len + more) front ≡ front = take_all (len + more) front (omega (arith, held)) in
    let size : len + more - v ≡ more = omega (arith, is) in
    let new : us ≡ front ++ replicate more t = rw size at (rw whole_front at e) in
    rw new (front_grown front all t more count f (omega (arith, whole, held)) le)

-- ---- parameters alone

pub params_fit : (ps kept few : List ValType) (runs : List Run) (n : ℕ) → runs ≡ [] → kept ≡ ps → few ≡ take n ps → n ≤ 64 → length ps < 2 ^ 32
    → AreRunsFrom (length kept) runs × IsFront few (locals_of kept runs) × (length few ≤ 64)
params_fit ps kept few runs n none all first within short =
    let size : length (take n ps) ≤ 64 = omega (arith, length-take n ps, within) in
    rw (none, all, first) (short, (drop n ps, append-nil ps ∙ sym (take-append-drop n ps)), size)

-- Marks: of more locals, and of one that is marked anew.
use Rattle.std.proofs.Common.{◌≡◌, ◌∙◌, ◌||◌, ◌==◌, ◌++◌, ◌∷◌, ◌<◌, ◌≤◌, ◌-◌, ◌+◌, [], ℕ, zero, suc, Bool, true, false, not, Option, List, length, take, get_or, map, replicate, set, if◌then◌else◌, refl, sym, ap, subst, arith, ⊎_elim}
use Rattle.std.proofs.lemmas.Bool.{eq-eqb, ne_eqb, or_parts, not-true, cases_lt, cases_eq}
use Rattle.std.proofs.lemmas.List.{get_or_append_left, get_or-append_right, get_or_past, get_or-replicate, length-replicate, map-append, map-set, set-get_or, get_or-map, get_or_default, get_or-set_same, get_or-set_other, length-map, take_more, take_all}
use Rattle.wasm_operator_validator_locals.specs.declared.inits.Mark.{Mark}
use Rattle.wasm_operator_validator_locals.specs.declared.inits.Mark.TheVariants as mark
use Rattle.wasm_operator_validator_locals.specs.inits.Inits.{is_among}
use Rattle.wasm_operator_validator_locals.specs.inits.Marks.{is_first, is_set, AreUnset, AreSavedUnset, AreMarked}
use Rattle.wasm_operator_validator_locals.proofs.Unset.{AreAllUnset, among_push, is_inside, unset_front, unset_push, unset_more, unset_get, saved_more}

-- ---- more locals

map_replicate : (n : ℕ) (m : Mark) → map is_first (replicate n m) ≡ replicate n (is_first m)
map_replicate zero m = refl
map_replicate (suc n) m = ap (λ (bs : List Bool). is_first m ∷ bs) (map_replicate n m)

pub first_more : (marks : List Mark) (n : ℕ) (m : Mark) → map is_first (marks ++ replicate n m) ≡ map is_first marks ++ replicate n (is_first m)
first_more marks n m = map-append is_first marks (replicate n m) ∙ ap (λ (bs : List Bool). map is_first marks ++ bs) (map_replicate n m)

replicated : (n i : ℕ) (m : Mark) → is_set m ≡ false → is_set (get_or (replicate n m) i mark.Unset) ≡ false
replicated n i m e = ⊎_elim
    (λ h. ap is_set (get_or-replicate n i m mark.Unset h) ∙ e)
    (λ h. (let h' : length (replicate n m) ≤ i = rw length-replicate h in ap is_set (get_or_past (replicate n m) i mark.Unset h')))
    (cases_lt i n)

pub marked_more : (marks : List Mark) (xs : List ℕ) (n : ℕ) (m : Mark) → AreMarked marks xs → is_set m ≡ false → AreMarked (marks ++ replicate n m) xs
marked_more marks xs n m a e k = ⊎_elim
    (λ h. ap is_set (get_or_append_left marks (replicate n m) mark.Unset k h) ∙ a k)
    (λ h. ap is_set (get_or-append_right marks (replicate n m) (length marks) k mark.Unset refl h)
    ∙ replicated n (k - length marks) m e ∙ sym (ap is_set (get_or_past marks k mark.Unset h)) ∙ a k)
    (cases_lt k (length marks))

-- ---- one marked anew

-- a local that has no value from the start, by its mark
pub not_first : (marks : List Mark) (x : ℕ) → get_or (map is_first marks) x true ≡ false → (x < length marks) × (is_first (get_or marks x mark.Unset) ≡ false)
not_first marks x e =
    let h : x < length (map is_first marks) = is_inside (map is_first marks) x e in
    let h' : x < length marks = rw length-map at h in
    (h', sym (get_or-map is_first marks x mark.Unset true h') ∙ e)

pub first_marked : (marks : List Mark) (x : ℕ) (m : Mark) → get_or (map is_first marks) x true ≡ false → is_first m ≡ false → map is_first (set marks x m) ≡ map is_first marks
first_marked marks x m e f =
    map-set is_first marks x m ∙ ap (λ (b : Bool). set (map is_first marks) x b) (f ∙ sym e) ∙ set-get_or (map is_first marks) x true

pub marked_at : (marks : List Mark) (x k : ℕ) (m : Mark) → x < length marks → is_set (get_or (set marks x m) k mark.Unset) ≡ (if x == k then is_set m else is_set (get_or marks k mark.Unset))
marked_at marks x k m h = ⊎_elim
    (λ e. rw (eq-eqb x k e) (let g : get_or (set marks x m) x mark.Unset ≡ m = get_or-set_same marks x m mark.Unset h in let g' : get_or (set marks x m) k mark.Unset ≡ m = subst (λ (j : ℕ). get_or (set marks x m) j mark.Unset ≡ m) e g in ap is_set g'))
    (λ n. rw (ne_eqb x k n) (ap is_set (get_or-set_other marks x k m mark.Unset (λ e. n (sym e)))))
    (cases_eq x k)

-- one more of them is set
pub marked_set : (marks : List Mark) (set' : List ℕ) (x : ℕ) → AreMarked marks set' → x < length marks → AreMarked (set marks x mark.Set) (set' ++ x ∷ [])
marked_set marks set' x a h k = marked_at marks x k mark.Set h ∙ at (x == k) ∙ sym (among_push set' x k)
  where
    at : (b : Bool) → (if b then true else is_set (get_or marks k mark.Unset)) ≡ (is_among set' k || b)
    at true = sym (or_true (is_among set' k))
      where
        or_true : (b : Bool) → (b || true) ≡ true
        or_true true = refl
        or_true false = refl
    at false = a k ∙ sym (or_false (is_among set' k))
      where
        or_false : (b : Bool) → (b || false) ≡ b
        or_false true = refl
        or_false false = refl

-- the last of them is not set any more
pub marked_unset : (marks : List Mark) (front : List ℕ) (x : ℕ) → AreMarked marks (front ++ x ∷ []) → x < length marks → is_among front x ≡ false → AreMarked (set marks x mark.Unset) front
marked_unset marks front x a h n k = marked_at marks x k mark.Unset h ∙ ⊎_elim
    (λ e. rw (eq-eqb x k e) (let n' : is_among front k ≡ false = rw e at n in sym n'))
    (λ d. rw (ne_eqb x k d) (a k ∙ among_push front x k ∙ ap (λ (b : Bool). is_among front k || b) (ne_eqb x k d) ∙ or_false (is_among front k)))
    (cases_eq x k)
  where
    or_false : (b : Bool) → (b || false) ≡ b
    or_false true = refl
    or_false false = refl

-- whether a local has no value is its mark
pub uninit_by : (marks : List Mark) (set' : List ℕ) (k : ℕ) (m d : Mark) (b : Bool) → AreMarked marks set' → k < length marks → m ≡ get_or marks k d
    → b ≡ (is_set m || is_first m) → b ≡ (is_among set' k || get_or (map is_first marks) k false)
uninit_by marks set' k m d b a h e f =
    let g : m ≡ get_or marks k mark.Unset = e ∙ get_or_default marks k d mark.Unset h in
    f ∙ rw g (rw (a k, get_or-map is_first marks k mark.Unset false h) refl)

-- ---- what is kept whole

abbrev pub AreSound : List Mark → List ℕ → Option (List ℕ) → Type 0
AreSound marks xs s = AreMarked marks xs × AreUnset (map is_first marks) xs × AreSavedUnset (map is_first marks) s

pub resized : (xs ys zs : List Mark) (len count : ℕ) (m : Mark) → ys ≡ xs → length ys ≡ len → zs ≡ take (length ys + count) xs ++ replicate (length ys + count - len) m
    → zs ≡ xs ++ replicate count m
resized xs ys zs len count m e f g =
    let n = ap length e in
    let h : length xs ≤ length ys + count = omega (arith, n) in
    let k : length ys + count - len ≡ count = omega (arith, f) in
    g ∙ rw (take_all (length ys + count) xs h, k) refl

pub more_sound : (marks news : List Mark) (n : ℕ) (m : Mark) (xs : List ℕ) (s : Option (List ℕ)) → news ≡ marks ++ replicate n m → is_set m ≡ false → AreSound marks xs s → AreSound news xs s
more_sound marks news n m xs s e f (a, u, v) =
    subst (λ (ms : List Mark). AreSound ms xs s) (sym e) (
      marked_more marks xs n m a f,
      rw (first_more marks n m) (unset_more (map is_first marks) (replicate n (is_first m)) xs u),
      rw (first_more marks n m) (saved_more (map is_first marks) (replicate n (is_first m)) s v),
    )

pub more_first : (marks news : List Mark) (n : ℕ) (m : Mark) → news ≡ marks ++ replicate n m → map is_first news ≡ map is_first marks ++ replicate n (is_first m)
more_first marks news n m e = ap (λ (ms : List Mark). map is_first ms) e ∙ first_more marks n m

-- the last of them is taken off
pub popped_facts : (marks : List Mark) (xs front : List ℕ) (x : ℕ) → xs ≡ front ++ x ∷ [] → AreUnset (map is_first marks) xs → AreAllUnset (map is_first marks) front x
popped_facts marks xs front x e u = unset_front (map is_first marks) front x (subst (λ (v : List ℕ). AreUnset (map is_first marks) v) e u)

pub popped_inside : (marks : List Mark) (xs front : List ℕ) (x : ℕ) (s : Option (List ℕ)) → xs ≡ front ++ x ∷ [] → AreSound marks xs s → x < length marks
popped_inside marks xs front x s e a = let (u, f, n) = popped_facts marks xs front x e a.1 in (not_first marks x f).0

pub popped_first : (marks news : List Mark) (xs front : List ℕ) (x : ℕ) (s : Option (List ℕ)) → xs ≡ front ++ x ∷ [] → news ≡ set marks x mark.Unset → AreSound marks xs s
    → map is_first news ≡ map is_first marks
popped_first marks news xs front x s e g a =
    let (u, f, n) = popped_facts marks xs front x e a.1 in ap (λ (ms : List Mark). map is_first ms) g ∙ first_marked marks x mark.Unset f refl

pub popped_sound : (marks news : List Mark) (xs front : List ℕ) (x : ℕ) (s t : Option (List ℕ)) → xs ≡ front ++ x ∷ [] → news ≡ set marks x mark.Unset → t ≡ s → AreSound marks xs s
    → AreSound news front t
popped_sound marks news xs front x s t e g h a =
    let (u, f, n) = popped_facts marks xs front x e a.1 in
    let k = popped_first marks news xs front x s e g a in
    let m : AreMarked marks (front ++ x ∷ []) = subst (λ (v : List ℕ). AreMarked marks v) e a.0 in (
      subst (λ (ms : List Mark). AreMarked ms front) (sym g) (marked_unset marks front x m (not_first marks x f).0 n),
      subst (λ (bs : List Bool). AreUnset bs front) (sym k) u,
      subst (λ (bs : List Bool). AreSavedUnset bs t) (sym k) (subst (λ (o : Option (List ℕ)). AreSavedUnset (map is_first marks) o) (sym h) a.2),
    )

-- one more is set
abbrev pub IsUnset : List Mark → List ℕ → ℕ → Type 0
IsUnset marks xs x = not (is_among xs x || get_or (map is_first marks) x false) ≡ true

set_facts : (marks : List Mark) (xs : List ℕ) (x : ℕ) → x < length (map is_first marks) → IsUnset marks xs x → (is_among xs x ≡ false) × (get_or (map is_first marks) x true ≡ false)
set_facts marks xs x h n =
    let (a, b) = or_parts (is_among xs x) (get_or (map is_first marks) x false) (not-true (is_among xs x || get_or (map is_first marks) x false) n) in
    (a, get_or_default (map is_first marks) x true false h ∙ b)

pub set_first : (marks news : List Mark) (xs : List ℕ) (x : ℕ) → x < length (map is_first marks) → IsUnset marks xs x → news ≡ set marks x mark.Set → map is_first news ≡ map is_first marks
set_first marks news xs x h n g = ap (λ (ms : List Mark). map is_first ms) g ∙ first_marked marks x mark.Set (set_facts marks xs x h n).1 refl

pub set_sound : (marks news : List Mark) (xs ys : List ℕ) (x : ℕ) (s t : Option (List ℕ)) → x < length (map is_first marks) → IsUnset marks xs x → news ≡ set marks x mark.Set
    → ys ≡ xs ++ x ∷ [] → t ≡ s → AreSound marks xs s → AreSound news ys t
set_sound marks news xs ys x s t h n g e o a =
    let (b, f) = set_facts marks xs x h n in
    let k = set_first marks news xs x h n g in (
      subst (λ (ms : List Mark). AreMarked ms ys) (sym g) (subst (λ (v : List ℕ). AreMarked (set marks x mark.Set) v) (sym e) (marked_set marks xs x a.0 (not_first marks x f).0)),
      subst (λ (bs : List Bool). AreUnset bs ys) (sym k) (subst (λ (v : List ℕ). AreUnset (map is_first marks) v) (sym e) (unset_push (map is_first marks) xs x a.1 f b)),
      subst (λ (bs : List Bool). AreSavedUnset bs t) (sym k) (subst (λ (v : Option (List ℕ)). AreSavedUnset (map is_first marks) v) (sym o) a.2),
    )

pub set_list : (marks : List Mark) (xs : List ℕ) (x : ℕ) → IsUnset marks xs x → (if is_among xs x || get_or (map is_first marks) x false then xs else xs ++ x ∷ []) ≡ xs ++ x ∷ []
set_list marks xs x n = rw (not-true (is_among xs x || get_or (map is_first marks) x false) n) refl

-- ---- several are marked

cond_or : (a b p q : Bool) → (if b then p else (if a then p else q)) ≡ (if a || b then p else q)
cond_or true true p q = refl
cond_or true false p q = refl
cond_or false true p q = refl
cond_or false false p q = refl

abbrev pub AreMarkedEach : List Mark → List ℕ → Mark → List Mark → Type 0
AreMarkedEach marks xs m news = (k : ℕ) → is_set (get_or news k mark.Unset) ≡ (if is_among xs k then is_set m else is_set (get_or marks k mark.Unset))

pub each_inside : (marks news : List Mark) (xs : List ℕ) (i x : ℕ) → AreUnset (map is_first marks) xs → map is_first news ≡ map is_first marks → i < length xs → x ≡ get_or xs i x
    → (x < length news) × (get_or (map is_first news) x true ≡ false)
each_inside marks news xs i x u e h g =
    let f : get_or (map is_first marks) (get_or xs i x) true ≡ false = unset_get (map is_first marks) xs i x u h in
    let f' : get_or (map is_first marks) x true ≡ false = subst (λ (j : ℕ). get_or (map is_first marks) j true ≡ false) (sym g) f in
    let f'' : get_or (map is_first news) x true ≡ false = subst (λ (bs : List Bool). get_or bs x true ≡ false) (sym e) f' in
    ((not_first news x f'').0, f'')

pub each_more : (marks news later : List Mark) (xs : List ℕ) (i x : ℕ) (m : Mark) → i < length xs → x ≡ get_or xs i x → x < length news → later ≡ set news x m
    → AreMarkedEach marks (take i xs) m news → AreMarkedEach marks (take (i + 1) xs) m later
each_more marks news later xs i x m h g l e a k =
    let t : take (i + 1) xs ≡ take i xs ++ x ∷ [] = take_more xs i x h ∙ ap (λ (y : ℕ). take i xs ++ y ∷ []) (sym g) in
    ap (λ (ms : List Mark). is_set (get_or ms k mark.Unset)) e ∙ marked_at news x k m l
    ∙ ap (λ (b : Bool). if x == k then is_set m else b) (a k)
    ∙ cond_or (is_among (take i xs) k) (x == k) (is_set m) (is_set (get_or marks k mark.Unset))
    ∙ ap (λ (b : Bool). if b then is_set m else is_set (get_or marks k mark.Unset)) (sym (among_push (take i xs) x k) ∙ ap (λ (v : List ℕ). is_among v k) (sym t))

pub each_later : (marks news later : List Mark) (x : ℕ) (m : Mark) → map is_first news ≡ map is_first marks → get_or (map is_first news) x true ≡ false → is_first m ≡ false → later ≡ set news x m
    → map is_first later ≡ map is_first marks
each_later marks news later x m e f n g = ap (λ (ms : List Mark). map is_first ms) g ∙ first_marked news x m f n ∙ e

-- What notes of a log leave.
use Rattle.std.proofs.Common.{◌≡◌, ◌≤◌, ◌<◌, ◌+◌, ◌-◌, ◌^◌, ℕ, zero, suc, Bool, false, List, [], ◌∷◌, ◌++◌, length, take, drop, min, refl, sym, ap, ◌∙◌, arith, append_assoc, ⊎_elim}
use Rattle.std.proofs.lemmas.Bool.{cases_lt}
use Rattle.std.proofs.lemmas.List.{drop_all, take_min}
use Rattle.wasm_operator_validator_state.specs.declared.frame.Frame.{Frame}
use Rattle.wasm_operator_validator_state.specs.attempts.Log.{Stacks, Log, undone, lost, reached, innermost_reached, with_frame, with_set}

-- ---- counts

drop_one_more : {X : Type 0} (x : X) (xs : List X) (p : ℕ) → drop (p + 1) (x ∷ xs) ≡ drop p xs
drop_one_more x xs p = let e : p + 1 ≡ suc p = omega arith in rw e refl

-- an item more on top, and one more that is left out
pub counted : {X : Type 0} (x : X) (xs : List X) (p q : ℕ) → q ≡ min (p + 1) (2 ^ 64 - 1) → length (x ∷ xs) < 2 ^ 64 → drop q (x ∷ xs) ≡ drop p xs
counted x xs p q e few =
    ⊎_elim
    (λ lt. let k : q ≡ p + 1 = omega (arith, e, few, lt) in rw k (drop_one_more x xs p))
    (λ le. let k : length (x ∷ xs) ≤ q = omega (arith, e, few, le) in drop_all q (x ∷ xs) k ∙ sym (drop_all p xs le))
    (cases_lt p (length xs))

-- one that is left out fewer, where one was taken off
pub uncounted : {X : Type 0} (x : X) (xs : List X) (p : ℕ) → 0 < p → drop p (x ∷ xs) ≡ drop (p - 1) xs
uncounted x xs zero h = absurd (omega arith)
uncounted x xs (suc p) h = let e : suc p - 1 ≡ p = omega arith in rw e refl

-- ---- frames

pub nothing_marked : (fs : List Frame) → innermost_reached false fs ≡ fs
nothing_marked [] = refl
nothing_marked (f ∷ fs) = refl

-- a frame that stood where the attempt began was closed
pub closed_one : (closed new fs : List Frame) (f g : Frame) (marked : Bool) → g ≡ reached marked f → new ≡ closed ++ g ∷ []
    → new ++ innermost_reached false fs ≡ closed ++ innermost_reached marked (f ∷ fs)
closed_one closed new fs f g marked is e =
    ap (λ (x : List Frame). x ++ innermost_reached false fs) e
    ∙ append_assoc closed (g ∷ []) (innermost_reached false fs)
    ∙ ap (λ (x : List Frame). closed ++ g ∷ x) (nothing_marked fs)
    ∙ ap (λ (x : Frame). closed ++ x ∷ fs) is

-- ---- locals

take_across : (k : ℕ) (xs ys : List ℕ) → take k (xs ++ ys) ≡ take k xs ++ take (k - length xs) ys
take_across zero xs ys = let e : 0 - length xs ≡ 0 = omega arith in rw e refl
take_across (suc k) [] ys = let e : suc k - 0 ≡ suc k = omega arith in rw e refl
take_across (suc k) (x ∷ xs) ys =
    let e : suc k - length (x ∷ xs) ≡ k - length xs = omega arith in
    rw e (ap (λ (zs : List ℕ). x ∷ zs) (take_across k xs ys))

-- locals that were set on top of so many are not set any more
pub unset_some : (kept height least : ℕ) (set xs noted was now : List ℕ) → length set ≡ height → least ≡ min kept height
    → noted ≡ lost kept height xs → now ≡ noted ++ was → take least set ++ now ≡ take kept (set ++ xs) ++ was
unset_some kept height least set xs noted was now is l n e =
    let a : take least set ≡ take kept set = rw l (rw (sym is) (take_min kept set)) in
    let b : noted ≡ take (kept - length set) xs = n ∙ ap (λ (h : ℕ). take (kept - h) xs) (sym is) in
    rw e (rw a (rw b (sym (append_assoc (take kept set) (take (kept - length set) xs) was) ∙ ap (λ (zs : List ℕ). zs ++ was) (sym (take_across kept set xs)))))

-- ---- logs

pub leaves_opened : (l : Log) (s : Stacks) (f : Frame) (xs now : List ℕ) (least : ℕ) → 0 < l.opened
    → take least s.set ++ now ≡ take l.kept (s.set ++ xs) ++ l.unset
    → undone (record l { opened = l.opened - 1; kept = least; unset = now }) s ≡ undone l (with_frame f (with_set xs s))
leaves_opened l s f xs now least o e = rw (e, uncounted f s.frames l.opened o) refl

pub leaves_standing : (l : Log) (s : Stacks) (f g : Frame) (new : List Frame) (xs now : List ℕ) (least : ℕ) → l.opened ≡ 0 → g ≡ reached l.marked f
    → new ≡ l.closed ++ g ∷ [] → take least s.set ++ now ≡ take l.kept (s.set ++ xs) ++ l.unset
    → undone (record l { closed = new; marked = false; kept = least; unset = now }) s ≡ undone l (with_frame f (with_set xs s))
leaves_standing l s f g new xs now least o is n e = rw (e, o) (ap (λ (fs : List Frame). record { operands = l.popped ++ drop l.pushed s.operands; frames = fs; set = take l.kept (s.set ++ xs) ++ l.unset }) (closed_one l.closed new s.frames f g l.marked is n))

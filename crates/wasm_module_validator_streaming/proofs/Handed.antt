-- Bytes that are handed over: one part more of them, and what that leads to.
use Rattle.std.proofs.Common.{◌≡◌, ◌∙◌, ◌<◌, ◌≤◌, ◌+◌, ◌-◌, ◌^◌, ℕ, zero, suc, Bool, false, List, [], ◌∷◌, ◌++◌, length, take, drop, Result, Ok, Err, refl, sym, ap, subst, arith, append-nil, append_assoc, length-append, length-drop, length-take-le, take-append-drop, take-add}
use Rattle.std.specs.Prelude.{IfErr}
use Rattle.std.proofs.lemmas.Bool.{false≢true}
use Rattle.wasm_sections_parser.specs.runs.hints.Hints.{AreBytes}
use Rattle.wasm_types.specs.decoding.ErrorValue.{ErrorValue}
use Rattle.wasm_module_validator_streaming.specs.declared.handing.PieceError.{PieceError}
use Rattle.wasm_module_validator_streaming.specs.declared.handing.PieceError.TheVariants as errors
use Rattle.wasm_module_validator_streaming.specs.Taking.{IsMidst, IsPending, DeniesFrom}
use Rattle.wasm_module_validator_streaming.specs.Handing.{HasRoom, Follows, DeniesBehind, IsOverlong, LongBehind, LongFrom, Says}

-- a law of what takes bytes: more may come
abbrev pub MayGrow : {S : Type 0} → (S → List ℕ → Bool → List ℕ → S → Type 0) → Type 0
MayGrow {S = S} stands = (first : S) (got : List ℕ) (rest : List ℕ) (now : S) (bytes : List ℕ) → stands first got false rest now → stands first (got ++ bytes) false (rest ++ bytes) now

-- the first of some bytes are bytes
bytes_front : (n : ℕ) (xs : List ℕ) → AreBytes xs → AreBytes (take n xs)
bytes_front zero xs h = tt
bytes_front (suc n) [] h = tt
bytes_front (suc n) (x ∷ xs) h = (h.0, bytes_front n xs h.1)

-- where a list has no item there is none
pub nothing_held : (held all : List ℕ) → all ≡ held → length all ≡ 0 → held ≡ []
nothing_held [] all same none = refl
nothing_held (x ∷ xs) all same none = let e = ap length same in absurd (omega (arith, e, none))

-- a turn takes a byte at least, unless all are taken
pub turns_count : (from count turn all left : ℕ) → turn ≤ from → from ≤ all → left ≡ all - from → count ≤ left → (count < left → 0 < count) → ¬ (from + count ≡ all)
    → turn + 1 ≤ from + count
turns_count from count turn all left turns within is few some more = let one = some (omega (arith, within, is, few, more)) in omega (arith, turns, one)

-- what an error says follows in both of its cases
pub says_so : (P Q : ErrorValue → Type 0) (A B : Type 0) → ((e : ErrorValue) → P e → Q e) → (A → B) → (e : PieceError) → Says P A e → Says Q B e
says_so P Q A B denied long (errors.Refused e) h = denied e h
says_so P Q A B denied long errors.TooLong h = long h

pub says_if : {V : Type 0} (P Q : ErrorValue → Type 0) (A B : Type 0) → ((e : ErrorValue) → P e → Q e) → (A → B) → (r : Result V PieceError) → IfErr r (Says P A) → IfErr r (Says Q B)
says_if P Q A B denied long (Ok v) h = tt
says_if P Q A B denied long (Err e) h = says_so P Q A B denied long e h

-- ---- a part

module _ {S : Type 0} (stands : S → List ℕ → Bool → List ℕ → S → Type 0) (grow : MayGrow stands) (rest : List ℕ) (now : S) where
  -- the first of the bytes may come
  pub part_midst : (text : List ℕ) (n : ℕ) → n ≤ length text → HasRoom stands rest now (length text) → IsMidst stands false (rest ++ take n text) now
  part_midst text n few h = record {
    first = h.first;
    got = h.got ++ take n text;
    there = grow h.first h.got rest now (take n text) h.there;
    room =
        let all = length-append h.got (take n text) in
        let some = length-take-le n text few in
        let room = h.room in
        omega (arith, all, some, room, few);
  }

  -- where they are refused, all are
  pub part_denies : {E : Type 0} (denied : S → List ℕ → E → Type 0) (text : List ℕ) (n : ℕ) (e : E) → DeniesFrom stands denied false (rest ++ take n text) now e → DeniesBehind stands denied rest now text e
  part_denies denied text n e h = λ first got s room more last room'.
      let parts : (got ++ take n text) ++ (drop n text ++ more) ≡ (got ++ text) ++ more =
      sym (append_assoc (got ++ take n text) (drop n text) more)
      ∙ ap (λ (l : List ℕ). l ++ more) (append_assoc got (take n text) (drop n text) ∙ ap (λ (l : List ℕ). got ++ l) (take-append-drop n text)) in
      let all : length (got ++ take n text) + length (drop n text) ≡ length (got ++ text) =
      sym (length-append (got ++ take n text) (drop n text)) ∙ ap length (append_assoc got (take n text) (drop n text) ∙ ap (λ (l : List ℕ). got ++ l) (take-append-drop n text)) in
      subst (λ (l : List ℕ). denied first l e) parts
      (h first (got ++ take n text) (grow first got rest now (take n text) s) (omega (arith, all, room)) (drop n text ++ more) (λ t. absurd (false≢true t))
      (subst (λ (l : List ℕ). length l < 2 ^ 64) (sym parts) room'))

  -- the same of all of them, where none are left of those before
  pub all_midst : (text : List ℕ) → rest ≡ [] → HasRoom stands rest now (length text) → IsMidst stands false text now
  all_midst text none h = subst (λ (l : List ℕ). IsMidst stands false (l ++ text) now) none (record {
    first = h.first;
    got = h.got ++ text;
    there = grow h.first h.got rest now text h.there;
    room = let all = length-append h.got text in let room = h.room in omega (arith, all, room);
  })

  pub all_denies : {E : Type 0} (denied : S → List ℕ → E → Type 0) (text : List ℕ) (e : E) → rest ≡ [] → DeniesFrom stands denied false text now e → DeniesBehind stands denied rest now text e
  all_denies denied text e none h = λ first got s room. h first (got ++ text) (subst (λ (l : List ℕ). stands first (got ++ text) false (l ++ text) now) none (grow first got rest now text s)) room

  pub all_long : (waits : S → List ℕ → Type 0) (most : ℕ) (text : List ℕ) → rest ≡ [] → LongFrom stands waits most text now → LongBehind stands waits most rest now text
  all_long waits most text none h = λ first got s room.
      h first (got ++ text) (subst (λ (l : List ℕ). stands first (got ++ text) false (l ++ text) now) none (grow first got rest now text s)) room

  -- With as many of the bytes as leave one to what is needed, no item is whole; with one more they are too many.
  pub part_long : (waits : S → List ℕ → Type 0) (needed most n : ℕ) (text : List ℕ) → IsPending waits needed rest now → AreBytes text → 0 < length rest → length rest ≤ most → length rest < needed
      → n ≤ length text → n ≤ needed - length rest → most - length rest < n → LongBehind stands waits most rest now text
  part_long waits needed most n text pending bytes some held less few wanted full = λ first got s room. record {
    front = got ++ take (n - 1) text;
    later = drop (n - 1) text;
    whole = sym (append_assoc got (take (n - 1) text) (drop (n - 1) text) ∙ ap (λ (l : List ℕ). got ++ l) (take-append-drop (n - 1) text));
    passed = (
      rest ++ take (n - 1) text,
      now,
      grow first got rest now (take (n - 1) text) s,
      pending.later (take (n - 1) text) (bytes_front (n - 1) text bytes) (omega (arith, length-append rest (take (n - 1) text), count, less, wanted, full, held)),
    );
    some = omega (arith, length-append rest (take (n - 1) text), some);
    full = omega (arith, length-append rest (take (n - 1) text), count, full, held);
    more = omega (arith, length-append rest (take (n - 1) text), count, full, held, few, length-drop (n - 1) text);
  }
    where
      count : length (take (n - 1) text) ≡ n - 1
      count = length-take-le (n - 1) text (omega (arith, few))

-- ---- one part after the other

-- no bytes lead nowhere
pub none_follows : {S : Type 0} (stands : S → List ℕ → Bool → List ℕ → S → Type 0) (rest : List ℕ) (now : S) → Follows stands rest now [] rest now
none_follows stands rest now first got s room = subst (λ (l : List ℕ). stands first l false rest now) (sym (append-nil got)) s

module _ {S : Type 0} (stands : S → List ℕ → Bool → List ℕ → S → Type 0) (before : List ℕ) (then : S) (text : List ℕ) (n : ℕ) (few : n ≤ length text)
    (rest : List ℕ) (now : S) (came : Follows stands before then (take n text) rest now) where
  parts : (got : List ℕ) → (got ++ take n text) ++ drop n text ≡ got ++ text
  parts got = append_assoc got (take n text) (drop n text) ∙ ap (λ (l : List ℕ). got ++ l) (take-append-drop n text)

  counts : (got : List ℕ) → length (got ++ take n text) + length (drop n text) ≡ length (got ++ text)
  counts got = sym (length-append (got ++ take n text) (drop n text)) ∙ ap length (parts got)

  -- the others may come
  pub rest_has_room : HasRoom stands before then (length text) → HasRoom stands rest now (length (drop n text))
  rest_has_room h =
      let sum = counts h.got in
      let all = length-append h.got text in
      let room = h.room in
      record {
        first = h.first;
        got = h.got ++ take n text;
        there = came h.first h.got h.there (omega (arith, sum, all, room));
        room = omega (arith, sum, all, room);
      }

  pub rest_follows : (k : ℕ) → k ≤ length (drop n text) → (left : List ℕ) (after : S) → Follows stands rest now (take k (drop n text)) left after
      → Follows stands before then (take (n + k) text) left after
  rest_follows k fits left after h = λ first got s room.
      let whole : got ++ take (n + k) text ≡ (got ++ take n text) ++ take k (drop n text) =
      ap (λ (l : List ℕ). got ++ l) (take-add n k text) ∙ sym (append_assoc got (take n text) (take k (drop n text))) in
      let room' : length ((got ++ take n text) ++ take k (drop n text)) < 2 ^ 64 = subst (λ (l : List ℕ). length l < 2 ^ 64) whole room in
      let sum = length-append (got ++ take n text) (take k (drop n text)) in
      subst (λ (l : List ℕ). stands first l false left after) (sym whole) (h first (got ++ take n text) (came first got s (omega (arith, sum, room'))) room')

  pub rest_denies : {E : Type 0} (denied : S → List ℕ → E → Type 0) (e : E) → DeniesBehind stands denied rest now (drop n text) e → DeniesBehind stands denied before then text e
  rest_denies denied e h = λ first got s room more last room'.
      let sum = counts got in
      subst (λ (l : List ℕ). denied first (l ++ more) e) (parts got)
      (h first (got ++ take n text) (came first got s (omega (arith, sum, room))) (subst (λ (l : List ℕ). length l < 2 ^ 64) (sym (parts got)) room) more last
      (subst (λ (l : List ℕ). length (l ++ more) < 2 ^ 64) (sym (parts got)) room'))

  pub rest_long : (waits : S → List ℕ → Type 0) (most : ℕ) → LongBehind stands waits most rest now (drop n text) → LongBehind stands waits most before then text
  rest_long waits most h = λ first got s room.
      let sum = counts got in
      subst (λ (l : List ℕ). IsOverlong stands waits first most l) (parts got)
      (h first (got ++ take n text) (came first got s (omega (arith, sum, room))) (subst (λ (l : List ℕ). length l < 2 ^ 64) (sym (parts got)) room))

-- One piece more of a reader: what was read with it, and what that leads to.
use Rattle.std.proofs.Common.{◌≡◌, ◌∙◌, ◌<◌, ◌≤◌, ◌+◌, ◌-◌, ◌^◌, min, ℕ, Bool, true, false, List, [], ◌++◌, length, take, drop, Option, Some, Result, Ok, Err, append-nil, refl, sym, ap, subst, arith, append_assoc, length-append, length-drop, length-take-le, take-take, take-append-drop}
use Rattle.std.proofs.lemmas.Bool.{false≢true}
use Rattle.std.proofs.KnownBytes.{Consumes-trans, Consumes-kept}
use Rattle.std.specs.Io.KnownBytes.{Consumes, Keeps}
use Rattle.wasm_types.specs.decoding.ErrorValue.{ErrorValue}
use Rattle.wasm_module_validator_streaming.specs.declared.reading.ReadError.{ReadError}
use Rattle.wasm_module_validator_streaming.specs.declared.reading.ReadError.TheVariants as errors
use Rattle.wasm_module_validator_streaming.specs.Pieces.{Answers, Concludes, HasCome, RefusesAll, ReadsSome, StopsWithin, takes_most}
use Rattle.wasm_module_validator_streaming.specs.Reads.{Gives}
use Rattle.wasm_module_validator_streaming.specs.Handing.{HasRoom, Follows, DeniesBehind}
use Rattle.wasm_module_validator_streaming.specs.Taking.{IsMidst, IsPassed}

-- ---- how far was read

module _ {S : Type 0} (stands : S → List ℕ → Bool → List ℕ → S → Type 0) (waits : S → List ℕ → Type 0) (first now : S) (most room piece : ℕ)
    (before mid after : Option (List ℕ)) (rest : List ℕ) (come : HasCome stands first most room before mid rest now) (here : waits now rest) where
  -- what was read before the last piece was taken
  pub stops_behind : (last : List ℕ) → Consumes mid after last → length last ≤ piece → (many : ℕ → Type 0) → ((n : ℕ) → n ≤ most → many n)
      → StopsWithin (IsPassed stands waits first) piece many before after
  stops_behind last read few many within = record {
    front = come.0;
    last = last;
    read = Consumes-trans before mid after come.0 last come.2 read;
    taken = (rest, now, come.3, here);
    few = few;
    count = within (length come.0) (let total = come.1 in omega (arith, total));
  }

  -- where a read failed
  pub stops_failed : Keeps mid after → StopsWithin (IsPassed stands waits first) piece (λ n. n ≤ most) before after
  stops_failed kept = record {
    front = come.0;
    last = [];
    read = subst (Consumes before after) (sym (append-nil come.0)) (Consumes-kept before mid after come.0 come.2 kept);
    taken = (rest, now, come.3, here);
    few = omega arith;
    count = let total = come.1 in omega (arith, total);
  }

module _ {S : Type 0} (stands : S → List ℕ → Bool → List ℕ → S → Type 0) (first now : S) (most room : ℕ) (few : most < 2 ^ 64 - 1)
    (before mid after : Option (List ℕ)) (rest : List ℕ) (come : HasCome stands first most room before mid rest now)
    (count k : ℕ) (chunk : List ℕ) (gives : Gives mid after (Some count) chunk) (kept : k ≡ min count room) where
  got : List ℕ
  got = come.0

  all_read : Consumes before after (got ++ take count chunk)
  unfolding got
  all_read = Consumes-trans before mid after got (take count chunk) come.2 gives.1

  length_read : length (got ++ take count chunk) ≡ length got + count
  length_read = length-append got (take count chunk) ∙ ap (λ (n : ℕ). length got + n) (length-take-le count chunk gives.0)

  length_kept : length (got ++ take k chunk) ≡ length got + k
  length_kept = length-append got (take k chunk) ∙ ap (λ (n : ℕ). length got + n) (length-take-le k chunk (let fits = gives.0 in omega (arith, kept, fits)))

  room_kept : length (got ++ take k chunk) < 2 ^ 64
  unfolding got
  room_kept = let total = come.1 in omega (arith, length_kept, total, kept, few)

  there : stands first got false rest now
  unfolding got
  there = come.3

  -- what is kept of the piece may come behind what is left
  pub kept_has_room : HasRoom stands rest now (length (take k chunk))
  kept_has_room = record { first = first; got = got; there = there; room = let room = room_kept in let all = length-append got (take k chunk) in omega (arith, room, all) }

  -- the piece was refused, and so is whatever begins with what was read
  pub piece_refused : {E : Type 0} (denied : S → List ℕ → E → Type 0) (e : E) → DeniesBehind stands denied rest now (take k chunk) e → RefusesAll (denied first) before after e
  piece_refused denied e h = record {
    got = got ++ take count chunk;
    read = all_read;
    eof = false;
    ended = λ t. absurd (false≢true t);
    refused = λ more none room'. subst (λ (text : List ℕ). denied first text e) (sym (parts more))
        (h first got there room_kept (drop k (take count chunk) ++ more) (λ t. absurd (false≢true t)) (subst (λ (text : List ℕ). length text < 2 ^ 64) (parts more) room'));
  }
    where
      front : take k chunk ++ drop k (take count chunk) ≡ take count chunk
      front = ap (λ (l : List ℕ). l ++ drop k (take count chunk)) (sym (take-take k count chunk (omega (arith, kept)))) ∙ take-append-drop k (take count chunk)

      parts : (more : List ℕ) → (got ++ take count chunk) ++ more ≡ (got ++ take k chunk) ++ (drop k (take count chunk) ++ more)
      parts more = ap (λ (l : List ℕ). l ++ more) (ap (λ (l : List ℕ). got ++ l) (sym front) ∙ sym (append_assoc got (take k chunk) (drop k (take count chunk))))
          ∙ append_assoc (got ++ take k chunk) (drop k (take count chunk)) more

  -- more came than there is room for
  pub too_long : k < count → ReadsSome (λ n. most < n) before after
  unfolding got
  too_long more = (got ++ take count chunk, all_read, let total = come.1 in omega (arith, length_read, total, kept, more))

  -- what there was room for was taken
  pub stops_full : (waits : S → List ℕ → Type 0) (piece : ℕ) → count ≤ piece → k < count → (left : List ℕ) (then : S) → Follows stands rest now (take k chunk) left then
      → waits then left → StopsWithin (IsPassed stands waits first) piece (λ n. n ≡ most) before after
  unfolding got
  stops_full waits piece few more left then h here = record {
    front = got ++ take k chunk;
    last = drop k (take count chunk);
    read = subst (Consumes before after) (sym (append_assoc got (take k chunk) (drop k (take count chunk)) ∙ ap (λ (l : List ℕ). got ++ l) front_is)) all_read;
    taken = (left, then, h first got there room_kept, here);
    few =
        let n : length (drop k (take count chunk)) ≡ length (take count chunk) - k = length-drop k (take count chunk) in
        let m = length-take-le count chunk gives.0 in
        omega (arith, n, m, few);
    count = let total = come.1 in omega (arith, length_kept, total, kept, more);
  }
    where
      front_is : take k chunk ++ drop k (take count chunk) ≡ take count chunk
      front_is = ap (λ (l : List ℕ). l ++ drop k (take count chunk)) (sym (take-take k count chunk (omega (arith, kept)))) ∙ take-append-drop k (take count chunk)

  -- all of the piece was kept, and taken
  pub has_come : count ≤ k → (left : List ℕ) (then : S) → Follows stands rest now (take k chunk) left then → HasCome stands first most (room - k) before after left then
  unfolding got
  has_come all left then h =
      let same : k ≡ count = omega (arith, kept, all) in
      let total = come.1 in (
        got ++ take k chunk,
        omega (arith, length_kept, total, kept),
        subst (λ (n : ℕ). Consumes before after (got ++ take n chunk)) (sym same) all_read,
        h first got there room_kept,
      )

-- ---- the end

module _ {S D : Type 0} (stands : S → List ℕ → Bool → List ℕ → S → Type 0) (shown : S → List ℕ → D → Type 0) (denied : S → List ℕ → ErrorValue → Type 0)
    (end : (first : S) (got : List ℕ) (rest : List ℕ) (now : S) → stands first got false rest now → stands first got true rest now)
    (first now : S) (most room : ℕ) (few : most < 2 ^ 64 - 1) (before mid after : Option (List ℕ)) (rest bytes : List ℕ) (same : bytes ≡ rest)
    (come : HasCome stands first most room before mid rest now) (chunk : List ℕ) (gives : Gives mid after (Some 0) chunk) (some : 0 < length chunk) where
  came : List ℕ
  came = come.0

  came_all : Consumes before after came
  unfolding came
  came_all = subst (Consumes before after) (append-nil come.0) (Consumes-trans before mid after come.0 [] come.2 gives.1)

  at_last : stands first came true bytes now
  unfolding came
  at_last = subst (λ (l : List ℕ). stands first come.0 true l now) (sym same) (end first come.0 rest now come.3)

  fits : length came < 2 ^ 64
  unfolding came
  fits = let total = come.1 in omega (arith, total, few)

  pub last_midst : IsMidst stands true bytes now
  last_midst = record { first = first; got = came; there = at_last; room = fits }

  -- what is concluded of the bytes that came is answered of the reader
  pub concluded : (result : Result D ReadError) → ((f : S) (got : List ℕ) → stands f got true bytes now → length got < 2 ^ 64 → Concludes shown denied f got result)
      → Answers (shown first) (denied first) most before after result
  unfolding came
  concluded (Ok d) h = record {
    all = came;
    read = came_all;
    ended = gives.2 refl some;
    within = let total = come.1 in omega (arith, total);
    known = h first came at_last fits;
  }
  concluded (Err (errors.Refused e)) h = record {
    got = came;
    read = came_all;
    eof = true;
    ended = λ t. gives.2 refl some;
    refused = h first came at_last fits;
  }
  concluded (Err errors.Read) h = absurd (h first came at_last fits)
  concluded (Err errors.TooLong) h = absurd (h first came at_last fits)

  -- no more came than may
  pub all_within : (result : Result D ReadError) → ((f : S) (got : List ℕ) → stands f got true bytes now → length got < 2 ^ 64 → Concludes shown denied f got result)
      → (n : ℕ) → n ≤ most → takes_most most result n
  all_within (Ok d) h n few = few
  all_within (Err (errors.Refused e)) h n few = few
  all_within (Err errors.Read) h n few = few
  all_within (Err errors.TooLong) h n few = absurd (h first came at_last fits)

-- Bytes one after the other, and numbers that are read.
use Rattle.std.proofs.Common.{◌≡◌, ◌≤◌, ◌∙◌, ℕ, ◌+◌, ◌-◌, List, ◌++◌, refl, sym, ap, arith, length, take, drop}
use Rattle.std.proofs.lemmas.List.{drop-drop, append_assoc, take-append-drop, length-take-le, length-drop, length-append}
use Rattle.wasm_types.specs.decoding.Decoder.{State}
use Rattle.wasm_types.specs.decoding.Leb.{u32, IsUnsigned}
use Rattle.wasm_types.specs.decoding.LebLaws.{decides-u32}
use Rattle.wasm_types.specs.settings.Settings.{no_features}
use Rattle.wasm_types.specs.decoding.Numbers.{behind, GivesAt}
use Rattle.wasm_module_validator_rules_in_order.specs.Between.{IsBetween}

-- these bytes are of two parts
abbrev pub InTurn : (List ℕ → Type 0) → (List ℕ → Type 0) → List ℕ → Type 0
InTurn P Q t = (a : List ℕ) × (b : List ℕ) × P a × Q b × (t ≡ a ++ b)

pub in_turn : (P Q : List ℕ → Type 0) (text : List ℕ) (i m j : ℕ) → IsBetween P text i m → IsBetween Q text m j → IsBetween (InTurn P Q) text i j
in_turn P Q text i m j first second = record {
  front = first.front ++ second.front;
  whole = first.whole ∙ ap (λ (r : List ℕ). first.front ++ r) second.whole ∙ sym (append_assoc first.front second.front (drop j text));
  place = omega (arith, first.place, second.place, length-append first.front second.front);
  inside = second.inside;
  such = (first.front, second.front, first.such, second.such, refl);
}

-- what is such is such otherwise, where the one implies the other
pub between_so : (P Q : List ℕ → Type 0) (text : List ℕ) (i j : ℕ) → ((t : List ℕ) → P t → Q t) → IsBetween P text i j → IsBetween Q text i j
between_so P Q text i j so b = record { front = b.front; whole = b.whole; place = b.place; inside = b.inside; such = so b.front b.such }

-- the next n bytes
pub bytes_between : (text : List ℕ) (i n : ℕ) → i + n ≤ length text → IsBetween (λ t. t ≡ take n (drop i text)) text i (i + n)
bytes_between text i n inside =
    let some = length-drop i text in
    record {
      front = take n (drop i text);
      whole = sym (take-append-drop n (drop i text)) ∙ ap (λ (r : List ℕ). take n (drop i text) ++ r) (drop-drop n i text);
      place = omega (arith, length-take-le n (drop i text) (omega (arith, some, inside)));
      inside = inside;
      such = refl;
    }

-- a number that is read
pub number_between : (text : List ℕ) (i n e : ℕ) → GivesAt u32 text i n e → IsBetween (IsUnsigned 32 n) text i e
number_between text i n e g =
    let s : State = record { rest = drop i text; place = 0; settings = no_features; start = 0 } in
    let (front, takes, spelled) = decides-u32.sound s (behind (e - i) s) n (g.gives s refl) in
    let whole : i + (e - i) ≡ e = omega (arith, g.forward) in
    record {
      front = front;
      whole = takes.parts ∙ ap (λ (r : List ℕ). front ++ r) (drop-drop (e - i) i text ∙ ap (λ (k : ℕ). drop k text) whole);
      place = omega (arith, takes.place, g.forward);
      inside = g.inside;
      such = spelled;
    }

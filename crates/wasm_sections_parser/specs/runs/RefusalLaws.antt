-- What is spelled at the front of a text comes before a refusal, and a module is not refused.
use Rattle.std.proofs.Common.{◌≡◌, ◌⊎◌, inl, inr, ℕ, ◌+◌, ◌<◌, ◌^◌, List, [], ◌∷◌, ◌++◌, length, refl, sym, ap, ◌∙◌, subst, arith, cond, Bool, true, false, None, Ok, Err}
use Rattle.std.specs.Prelude.{◌==◌}
use Rattle.std.proofs.lemmas.Bool.{eqb-true}
use Rattle.std.proofs.lemmas.List.{append-nil}
use Rattle.wasm_types.specs.settings.Settings.{Settings}
use Rattle.wasm_types.specs.decoding.Decoder.{State, Outcome, Done, Short, continue_with, ◌>>=◌, first_of_rest, GoesOn, Takes}
use Rattle.wasm_types.specs.decoding.Leb.{u32}
use Rattle.wasm_types.specs.decoding.ExactLaws.{value_is, state_is}
use Rattle.wasm_types.specs.decoding.declared.error.ErrorKind.{ErrorKind}
use Rattle.wasm_types.specs.decoding.declared.error.ErrorKind.TheVariants.{EndOfData, MissingFeature, OutOfMemory, Failed, Other}
use Rattle.wasm_types.specs.decoding.ErrorValue.{ErrorValue}
use Rattle.wasm_types.specs.decoding.ErrorText.{hint_of}
use Rattle.wasm_types.specs.reader.Reading.{FailsAt, IsNotMemory}
use Rattle.wasm_sections_items.specs.frames.Outer.{Outer, IsOrdered, CountsAgree}
use Rattle.wasm_sections_parser.specs.declared.frame.Frame.{Frame}
use Rattle.wasm_sections_parser.specs.Parsers.{Parser}
use Rattle.wasm_sections_parser.specs.declared.parser.Chunk.TheVariants.{NeedMoreData}
use Rattle.wasm_sections_parser.specs.declared.progress.Progress.{Progress}
use Rattle.wasm_sections_parser.specs.Steps.{Shape, begun, counts_agree, is_over, Next, ordered, next_section, step}
use Rattle.wasm_sections_parser.specs.StepLaws.{lawful-step}
use Rattle.wasm_sections_parser.specs.Parsing.{between, reads, at_end, comes, Ends, Comes, IsOver, one_of, Parses}
use Rattle.wasm_sections_parser.specs.runs.calls.Runs.{fresh, Run, Frames, AreCounted}
use Rattle.wasm_sections_parser.specs.runs.calls.Calls.{shapes_of, stands, Called, Calls}
use Rattle.wasm_sections_parser.specs.runs.steps.StepCases.{step_between}
use Rattle.wasm_sections_parser.specs.runs.Modules.{IsStart}
use Rattle.wasm_sections_parser.specs.runs.RunsComplete.{module_run}
use Rattle.wasm_sections_parser.specs.runs.steps.NoteLaws.{agree}
use Rattle.wasm_sections_parser.specs.runs.steps.CompareLaws.{module_compares}
use Rattle.wasm_sections_parser.specs.runs.FrontLaws.{front_run}
use Rattle.wasm_sections_parser.specs.runs.calls.PlainLaws.{restart_done}
use Rattle.wasm_sections_parser.specs.runs.calls.CallLaws.{calls_run}

abbrev given : Next → State → Outcome Next
given y t = Done y t

-- ---- where nothing comes next

-- no step succeeds here
abbrev pub IsStuck : Settings → Progress → State → Type 0
IsStuck z p s = (y : Next) (t : State) → step z p s ≡ given y t → ⊥

-- no section begins without a byte
no_section : (z : Settings) (p : Progress) (s : State) → between p.stage s.place ≡ true → s.rest ≡ [] → IsStuck z p s
unfolding next_section
no_section z p s b none y t e =
    let f : Short s.place 1 ≡ given y t = sym (ap (λ (r : List ℕ). continue_with (first_of_rest r s) (λ id. u32 >>= ordered z p id)) none) ∙ sym (step_between z p s b) ∙ e in
    cc

not_done : (o : Outcome Next) (y : Next) (t : State) (k : Outcome Next) → o ≡ given y t → o ≡ k → k ≡ given y t
not_done o y t k e f = sym f ∙ e

-- an error of a piece is an error of all that is left
failed : (k : ErrorKind) (place : ℕ) (o after : Outcome Next) (more : List ℕ) (eof : Bool) (y : Next) (t : State) → IsNotMemory k
    → FailsAt k place o → (eof ≡ false → hint_of k ≡ None) → (eof ≡ true → after ≡ o) → GoesOn o more after → after ≡ given y t
    → ⊥
failed (EndOfData h) place o after more true y t m f hint told g e = let v = sym f ∙ sym (told refl) ∙ e in cc
failed (EndOfData h) place o after more false y t m f hint told g e = let v = hint refl in cc
failed (MissingFeature x) place o after more eof y t m f hint told g e = let v = subst (λ (w : Outcome Next). GoesOn w more after) f g in let w = sym v ∙ e in cc
failed OutOfMemory place o after more eof y t m f hint told g e = m
failed Failed place o after more eof y t m f hint told g e = f
failed Other place o after more eof y t m f hint told g e = let v = subst (λ (w : Outcome Next). GoesOn w more after) f g in let w = sym v ∙ e in cc

no_bytes : (xs : List ℕ) → length xs ≡ 0 → xs ≡ []
no_bytes [] e = refl
no_bytes (x ∷ xs) e = absurd (omega arith)

-- a refused call, where something may come
module _ (q r : Parser) (rest : List ℕ) (e : ErrorValue) (c : Called q rest (Err e) r) where
  -- where no byte is left the counts do not agree
  abbrev Refuses : Type 0
  Refuses = ((rest ≡ []) × (between q.progress.stage q.offset ≡ true) × (counts_agree q.progress ≡ false)) ⊎ ((at_end q c.piece ≡ false) × Comes q c.piece c.eof (Err e) r)

  refused_cases : is_over q.progress ≡ false → Refuses
  refused_cases going = over (is_over q.progress) going c.parses
    where
      bytes : (k : Bool) → (length c.piece == 0) ≡ k → (b : Bool) → cond k (between q.progress.stage q.offset) false ≡ b
          → at_end q c.piece ≡ b → one_of b (Ends q c.eof (Err e) r) (Comes q c.piece c.eof (Err e) r) → Refuses
      bytes k f false h a g = inr (a, g)
      bytes true f true h a g = inl (c.whole ∙ ap (λ (x : List ℕ). x ++ c.later) (no_bytes c.piece (eqb-true _ _ f)) ∙ c.told g.0, h, g.1)
      bytes false f true h a g = absurd cc

      over : (k : Bool) → k ≡ false → one_of k (IsOver q (Err e) r) (one_of (at_end q c.piece) (Ends q c.eof (Err e) r) (Comes q c.piece c.eof (Err e) r)) → Refuses
      over true f g = absurd cc
      over false f g = bytes (length c.piece == 0) refl (at_end q c.piece) refl refl g

  told_all : c.eof ≡ true → step q.settings q.progress (reads q (c.piece ++ c.later)) ≡ comes q c.piece
  told_all f = ap (λ (x : List ℕ). step q.settings q.progress (reads q x)) (ap (λ (x : List ℕ). c.piece ++ x) (c.told f) ∙ append-nil c.piece)

  pub refused_stuck : is_over q.progress ≡ false → IsStuck q.settings q.progress (reads q rest)
  refused_stuck going y t f = go (refused_cases going)
    where
      go : Refuses → ⊥
      go (inl k) = no_section q.settings q.progress (reads q rest) k.1 k.0 y t f
      go (inr k) = failed e.kind e.offset (comes q c.piece) (step q.settings q.progress (reads q (c.piece ++ c.later))) c.later c.eof y t k.1.0 k.1.1 k.1.2 told_all
          ((lawful-step q.settings q.progress).steady (reads q c.piece) c.later) (ap (λ (x : List ℕ). step q.settings q.progress (reads q x)) (sym c.whole) ∙ f)

-- ---- two runs

run_prefix : (z : Settings) (xs ys : List Shape) (p q r : Progress) (s t u : State) → Run z p s xs q t → Run z p s ys r u → IsStuck z r u → (zs : List Shape) × (ys ≡ xs ++ zs) × Run z q t zs r u
run_prefix z [] ys p q r s t u h k stuck = (ys, refl, subst (λ (v : Progress). Run z v t ys r u) h.0 (subst (λ (v : State). Run z p v ys r u) h.1 k))
run_prefix z (x ∷ xs) [] p q r s t u h k stuck = absurd (stuck (x, h.0) h.1 ((λ i. step z (sym k.0 i) (sym k.1 i)) ∙ h.2))
run_prefix z (x ∷ xs) (y ∷ ys) p q r s t u h k stuck =
    let both : given (x, h.0) h.1 ≡ given (y, k.0) k.1 = sym h.2 ∙ k.2 in
    let v = value_is (x, h.0) (y, k.0) h.1 k.1 both in
    let here : Run z k.0 k.1 xs q t = subst (λ (w : State). Run z k.0 w xs q t) (state_is (x, h.0) (y, k.0) h.1 k.1 both)
    (subst (λ (w : Progress). Run z w h.1 xs q t) (ap (λ (n : Next). n.1) v) h.3) in
    let rest = run_prefix z xs ys k.0 q r k.1 t u here k.3 stuck in
    (rest.0, (λ i. (ap (λ (n : Next). n.0) (sym v)) i ∷ rest.1 i), rest.2)

-- a call that is handed all the bytes that are left and asks for more
pub asked_stuck : (q r : Parser) (rest : List ℕ) (n : ℕ) → is_over q.progress ≡ false → Parses q rest false (Ok (NeedMoreData n)) r → IsStuck q.settings q.progress (reads q rest)
asked_stuck q r rest n going h y t f = over (is_over q.progress) going h
  where
    missing : (k : Bool) → (length rest == 0) ≡ k → (b : Bool) → cond k (between q.progress.stage q.offset) false ≡ b
        → one_of b (Ends q false (Ok (NeedMoreData n)) r) (Comes q rest false (Ok (NeedMoreData n)) r) → ⊥
    missing k e false g a = let no : Short a.1.0 a.1.1 ≡ given y t = sym a.1.2 ∙ f in cc
    missing true e true g a = no_section q.settings q.progress (reads q rest) g (no_bytes rest (eqb-true _ _ e)) y t f
    missing false e true g a = absurd cc

    over : (k : Bool) → k ≡ false → one_of k (IsOver q (Ok (NeedMoreData n)) r) (one_of (at_end q rest) (Ends q false (Ok (NeedMoreData n)) r) (Comes q rest false (Ok (NeedMoreData n)) r)) → ⊥
    over true e g = g
    over false e g = missing (length rest == 0) refl (at_end q rest) refl g

-- ---- calls

-- behind calls, where nothing comes next
module _ (fs : List Frame) (p q : Parser) (text rest : List ℕ) (first : p.progress ≡ fresh) (calls : Calls p text fs q rest)
    (going : is_over q.progress ≡ false) (none : IsStuck q.settings q.progress (reads q rest)) where
  all_run : Run p.settings fresh (reads p text) (shapes_of fs) q.progress (stands q rest p.offset)
  all_run = subst (λ (v : Progress). Run p.settings v (reads p text) (shapes_of fs) q.progress (stands q rest p.offset)) first (calls_run fs p q text rest calls going).0

  stuck : IsStuck p.settings q.progress (stands q rest p.offset)
  stuck y t f =
      let same : p.settings ≡ q.settings = sym (calls_run fs p q text rest calls going).1 in
      let d = restart_done p.settings q.progress p.offset (reads q rest) t y f in
      none y d.0 (ap (λ (z : Settings). step z q.progress (reads q rest)) (sym same) ∙ d.1)

  -- what is spelled at the front comes first
  pub front_first : (front back : List ℕ) (xs : List Shape) (long : ℕ) → text ≡ front ++ back → IsStart p.settings front xs long
      → p.offset + long < 2 ^ 64 → (zs : List Shape) × (shapes_of fs ≡ xs ++ zs)
  front_first front back xs long whole (inl begin) room = (shapes_of fs, sym (ap (λ (k : List Shape). k ++ shapes_of fs) begin.1))
  front_first front back xs long whole (inr h) room =
      let t : State = record { rest = back; place = p.offset + length front; settings = p.settings; start = p.offset } in
      let taken : Takes (reads p text) front t = record { parts = whole; place = refl; settings = refl; start = refl } in
      let run = front_run p.settings front xs long (reads p text) t h taken room in
      let left = run_prefix p.settings xs (shapes_of fs) fresh run.0 q.progress (reads p text) t (stands q rest p.offset) run.1 all_run stuck in
      (left.0, left.1)

module _ (fs : List Frame) (p q r : Parser) (text rest : List ℕ) (e : ErrorValue) (first : p.progress ≡ fresh)
    (calls : Calls p text fs q rest) (going : is_over q.progress ≡ false) (c : Called q rest (Err e) r) where
  -- a module is not refused
  pub not_refused : (m : Outer) (xs : List Shape) → Frames p.settings m text xs → IsOrdered m.parts → AreCounted m.parts → CountsAgree m.parts → p.offset + length text < 2 ^ 64 → ⊥
  not_refused m xs h order counted counts room =
      let t : State = record { rest = []; place = p.offset + length text; settings = p.settings; start = p.offset } in
      let none : IsStuck q.settings q.progress (reads q rest) = refused_stuck q r rest e c going in
      let taken : Takes (reads p text) text t = record { parts = sym (append-nil text); place = refl; settings = refl; start = refl } in
      let run = module_run p.settings m text xs (reads p text) t h order counted (module_compares m.parts order counted counts) taken room in
      let left = run_prefix p.settings xs (shapes_of fs) fresh run.0 q.progress (reads p text) t (stands q rest p.offset) run.1
      (all_run fs p q text rest first calls going none) (stuck fs p q text rest first calls going none) in
      let there : counts_agree run.0 ≡ true = agree m.parts (begun fresh) run.0 refl run.2 order counts in
      ended run.0 t left.0 left.2 run.3 there refl (refused_cases q r rest e c going)
    where
      agreed_so : (v : Progress) → v ≡ q.progress → counts_agree v ≡ true → counts_agree q.progress ≡ false → ⊥
      agreed_so v same f g = let no' : true ≡ false = sym f ∙ ap counts_agree same ∙ g in cc

      no_piece : (a b : List ℕ) → [] ≡ a ++ b → length a == 0 ≡ true
      no_piece [] b f = refl
      no_piece (x ∷ a) b f = absurd cc

      ended : (v : Progress) (t : State) (zs : List Shape) → Run p.settings v t zs q.progress (stands q rest p.offset)
          → between v.stage t.place ≡ true → counts_agree v ≡ true → t.rest ≡ [] → Refuses q r rest e c → ⊥
      ended v t (x ∷ zs) k b f none g = no_section p.settings v t b none (x, k.0) k.1 k.2
      ended v t [] k b f none (inl g) = agreed_so v k.0 f g.2
      ended v t [] k b f none (inr g) =
          let empty : rest ≡ [] = sym (ap (λ (w : State). w.rest) k.1) ∙ none in
          let here : between q.progress.stage q.offset ≡ true = (λ i. between ((sym k.0) i).stage ((sym k.1) i).place) ∙ b in
          let end : at_end q c.piece ≡ true = ap (λ (w : Bool). cond w (between q.progress.stage q.offset) false) (no_piece c.piece c.later (sym empty ∙ c.whole)) ∙ here in
          let no' : true ≡ false = sym end ∙ g.0 in
          cc

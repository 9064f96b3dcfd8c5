-- The frames that calls of a parser gave so far come first among those of the module that the whole text is, and a module has no others.
use Rattle.std.proofs.Common.{◌≡◌, ℕ, ◌+◌, ◌<◌, ◌^◌, List, [], ◌∷◌, ◌++◌, length, drop, refl, sym, ap, ◌∙◌, subst, append_assoc, arith, Bool, true, false, Ok}
use Rattle.std.proofs.lemmas.List.{append-nil}
use Rattle.wasm_types.specs.settings.Settings.{Settings}
use Rattle.wasm_types.specs.decoding.Decoder.{State, Outcome, Done, Short, continue_with, ◌>>=◌, first_of_rest, Takes}
use Rattle.wasm_types.specs.decoding.Leb.{u32}
use Rattle.wasm_types.specs.decoding.ExactLaws.{value_is, state_is}
use Rattle.wasm_sections_parser.specs.declared.frame.Frame.{Frame}
use Rattle.wasm_sections_parser.specs.declared.frame.Frame.TheVariants as frames
use Rattle.wasm_sections_parser.specs.Parsers.{Parser}
use Rattle.wasm_sections_parser.specs.declared.parser.Chunk.TheVariants.{Parsed}
use Rattle.wasm_sections_parser.specs.declared.progress.Progress.{Progress}
use Rattle.wasm_sections_parser.specs.Places.{IsPlacedBy, HasContentsAt}
use Rattle.wasm_sections_parser.specs.Steps.{Shape, the_end, is_over, Next, ordered, next_section, step}
use Rattle.wasm_sections_parser.specs.Parsing.{shape_of, reads, between, at_end, Ends, Comes, IsOver, one_of, Parses}
use Rattle.wasm_sections_parser.specs.runs.steps.StepCases.{step_between}
use Rattle.wasm_sections_parser.specs.runs.calls.Runs.{fresh, Run}
use Rattle.wasm_sections_parser.specs.runs.calls.Calls.{shapes_of, stands, Called, Calls}
use Rattle.wasm_sections_parser.specs.runs.calls.CallLaws.{call_cases, calls_run}
use Rattle.wasm_sections_parser.specs.runs.calls.Advance.{is_end, parsed_is_over}
use Rattle.wasm_sections_parser.specs.runs.Modules.{IsModule}
use Rattle.wasm_sections_parser.specs.runs.ModuleLaws.{end_given}
use Rattle.wasm_sections_parser.specs.runs.RefusalLaws.{IsStuck}
use Rattle.wasm_sections_parser.specs.runs.RunsComplete.{module_run}
use Rattle.wasm_sections_parser.specs.runs.steps.CompareLaws.{module_compares}
use Rattle.wasm_module_validator_section_order.specs.frames.Walks.{HasSettings}

abbrev given : Next → State → Outcome Next
given y t = Done y t

-- ---- runs

-- no section begins without a byte
no_section : (z : Settings) (p : Progress) (s : State) → between p.stage s.place ≡ true → s.rest ≡ [] → IsStuck z p s
unfolding next_section
no_section z p s b none y t e =
    let f : Short s.place 1 ≡ given y t = sym (ap (λ (r : List ℕ). continue_with (first_of_rest r s) (λ id. u32 >>= ordered z p id)) none) ∙ sym (step_between z p s b) ∙ e in
    cc

-- a run that ends where no step succeeds begins with each other from where it begins
run_prefix : (z : Settings) (xs ys : List Shape) (p q r : Progress) (s t u : State) → Run z p s xs q t → Run z p s ys r u → IsStuck z r u → (zs : List Shape) × (ys ≡ xs ++ zs) × Run z q t zs r u
run_prefix z [] ys p q r s t u h k stuck = (ys, refl, subst (λ (v : Progress). Run z v t ys r u) h.0 (subst (λ (v : State). Run z p v ys r u) h.1 k))
run_prefix z (x ∷ xs) [] p q r s t u h k stuck = absurd (stuck (x, h.0) h.1 ((λ i. step z (sym k.0 i) (sym k.1 i)) ∙ h.2))
run_prefix z (x ∷ xs) (y ∷ ys) p q r s t u h k stuck =
    let both : given (x, h.0) h.1 ≡ given (y, k.0) k.1 = sym h.2 ∙ k.2 in
    let v = value_is (x, h.0) (y, k.0) h.1 k.1 both in
    let here : Run z k.0 k.1 xs q t = subst (λ (w : State). Run z k.0 w xs q t) (state_is (x, h.0) (y, k.0) h.1 k.1 both)
    (subst (λ (w : Progress). Run z w h.1 xs q t) (ap (λ (n : Next). n.1) v) h.3) in
    let rest = run_prefix z xs ys k.0 q r k.1 t u here k.3 stuck in
    (rest.0, (λ i. (ap (λ (n : Next). n.0) (sym v)) i ∷ rest.1 i), rest.2)

-- no frame comes where no step succeeds
nothing_left : (z : Settings) (xs : List Shape) (p q : Progress) (s t : State) → Run z p s xs q t → IsStuck z p s → xs ≡ []
nothing_left z [] p q s t h stuck = refl
nothing_left z (x ∷ xs) p q s t h stuck = absurd (stuck (x, h.0) h.1 h.2)

no_more : (xs ys zs : List Shape) → ys ≡ xs ++ zs → zs ≡ [] → xs ≡ ys
no_more xs ys zs e none = sym (e ∙ ap (λ (vs : List Shape). xs ++ vs) none ∙ append-nil xs)

-- a text is a module of one list of frames
pub modules_one : (z : Settings) (text : List ℕ) (xs ys : List Shape) → length text < 2 ^ 64 → IsModule z text xs → IsModule z text ys → xs ≡ ys
modules_one z text xs ys room m n =
    let s : State = record { rest = text; place = 0; settings = z; start = 0 } in
    let t : State = record { rest = []; place = length text; settings = z; start = 0 } in
    let taken : Takes s text t = record { parts = sym (append-nil text); place = omega arith; settings = refl; start = refl } in
    let first = module_run z m.outer text xs s t m.frames m.ordered m.counted (module_compares m.outer.parts m.ordered m.counted m.counts) taken room in
    let second = module_run z n.outer text ys s t n.frames n.ordered n.counted (module_compares n.outer.parts n.ordered n.counted n.counts) taken room in
    let left = run_prefix z xs ys fresh first.0 second.0 s t t first.1 second.1 (no_section z second.0 t second.3 refl) in
    let none = nothing_left z left.0 first.0 second.0 t t left.2 (no_section z first.0 t first.3 refl) in
    no_more xs ys left.0 left.1 none

-- ---- calls

-- the frames that calls gave so far are a front of all
pub calls_first : (p q : Parser) (text rest : List ℕ) (fs : List Frame) (ys : List Shape) → p.progress ≡ fresh → p.offset + length text < 2 ^ 64
    → IsModule p.settings text ys → Calls p text fs q rest → is_over q.progress ≡ false → (zs : List Shape) × (ys ≡ shapes_of fs ++ zs)
calls_first p q text rest fs ys first room m calls going =
    let z : Settings = p.settings in
    let t : State = record { rest = []; place = p.offset + length text; settings = z; start = p.offset } in
    let taken : Takes (reads p text) text t = record { parts = sym (append-nil text); place = refl; settings = refl; start = refl } in
    let run = module_run z m.outer text ys (reads p text) t m.frames m.ordered m.counted (module_compares m.outer.parts m.ordered m.counted m.counts) taken room in
    let so_far : Run z fresh (reads p text) (shapes_of fs) q.progress (stands q rest p.offset) =
    subst (λ (v : Progress). Run z v (reads p text) (shapes_of fs) q.progress (stands q rest p.offset)) first (calls_run fs p q text rest calls going).0 in
    let left = run_prefix z (shapes_of fs) ys fresh q.progress run.0 (reads p text) (stands q rest p.offset) t so_far run.1 (no_section z run.0 t run.3 refl) in
    (left.0, left.1)

-- one call more
pub calls_joined : (fs : List Frame) (p q r : Parser) (text rest : List ℕ) (n : ℕ) (f : Frame) → Calls p text fs q rest → Called q rest (Ok (Parsed n f)) r
    → Calls p text (fs ++ f ∷ []) r (drop n rest)
calls_joined [] p q r text rest n f h c =
    (n, r, subst (λ (v : Parser). Called v text (Ok (Parsed n f)) r) (sym h.0) (subst (λ (x : List ℕ). Called q x (Ok (Parsed n f)) r) (sym h.1) c), (refl, ap (drop n) h.1))
calls_joined (x ∷ fs) p q r text rest n f h c = (h.0, h.1, h.2, calls_joined fs h.1 q r (drop h.0 text) rest n f h.3 c)

pub shapes_joined : (fs : List Frame) (f : Frame) → shapes_of (fs ++ f ∷ []) ≡ shapes_of fs ++ shape_of f ∷ []
shapes_joined [] f = refl
shapes_joined (x ∷ fs) f = ap (λ (xs : List Shape). shape_of x ∷ xs) (shapes_joined fs f)

-- what is behind a frame and those before it
pub shapes_before : (fs : List Frame) (f : Frame) (ys zs : List Shape) → ys ≡ shapes_of (fs ++ f ∷ []) ++ zs → ys ≡ shapes_of fs ++ shape_of f ∷ zs
shapes_before fs f ys zs e = e ∙ ap (λ (xs : List Shape). xs ++ zs) (shapes_joined fs f) ∙ append_assoc (shapes_of fs) (shape_of f ∷ []) zs

-- ---- settings

placed_settings : (z : Settings) (s : State) (f : Frame) (q : Progress) (to : ℕ) → IsPlacedBy (HasContentsAt s) z f q to → HasSettings z f
placed_settings z s (frames.Version n e r) q to h = tt
placed_settings z s (frames.Custom c) q to h = tt
placed_settings z s (frames.Section id b) q to h = h.2
placed_settings z s (frames.CodeStart n r k) q to h = tt
placed_settings z s (frames.CodeEntry b) q to h = h.2
placed_settings z s (frames.End place) q to h = tt

-- a frame is read by the settings of the parser, which keeps them
pub parsed_settings : (p : Parser) (text : List ℕ) (eof : Bool) (n : ℕ) (f : Frame) (q : Parser) → Parses p text eof (Ok (Parsed n f)) q
    → HasSettings p.settings f × (q.settings ≡ p.settings)
parsed_settings p text eof n f q h = over (is_over p.progress) h
  where
    between : (b : Bool) → one_of b (Ends p eof (Ok (Parsed n f)) q) (Comes p text eof (Ok (Parsed n f)) q) → HasSettings p.settings f × (q.settings ≡ p.settings)
    between true g = (subst (HasSettings p.settings) (sym g.3) tt, ap (λ (v : Parser). v.settings) g.4)
    between false g =
        (placed_settings p.settings (reads p text) f q.progress g.after.place g.placed, g.settings)

    over : (b : Bool) → one_of b (IsOver p (Ok (Parsed n f)) q) (one_of (at_end p text) (Ends p eof (Ok (Parsed n f)) q) (Comes p text eof (Ok (Parsed n f)) q))
        → HasSettings p.settings f × (q.settings ≡ p.settings)
    over true g = absurd g
    over false g = between (at_end p text) g

pub calls_settings : (fs : List Frame) (p q : Parser) (text rest : List ℕ) → Calls p text fs q rest → q.settings ≡ p.settings
calls_settings [] p q text rest h = ap (λ (v : Parser). v.settings) (sym h.0)
calls_settings (f ∷ fs) p q text rest h = calls_settings fs h.1 q (drop h.0 text) rest h.3 ∙ (parsed_settings p h.2.piece h.2.eof h.0 f h.1 h.2.parses).1

-- behind calls a frame is read by the settings of the parser that began
pub called_settings : (p q r : Parser) (text rest : List ℕ) (fs : List Frame) (n : ℕ) (f : Frame) → Calls p text fs q rest → Called q rest (Ok (Parsed n f)) r → HasSettings p.settings f
called_settings p q r text rest fs n f h c =
    subst (λ (z : Settings). HasSettings z f) (calls_settings fs p q text rest h) (parsed_settings q c.piece c.eof n f r c.parses).0

-- ---- the end

-- calls behind which the parser is over: the last gave the end
pub record HaveEnded (p : Parser) (text : List ℕ) (fs : List Frame) (q : Parser) : Type 0 where
  pub before : List Frame
  pub last : Parser
  pub left : List ℕ
  pub size : ℕ
  pub place : ℕ
  pub whole : fs ≡ before ++ frames.End place ∷ []
  pub calls : Calls p text before last left
  pub called : Called last left (Ok (Parsed size (frames.End place))) q

-- a frame behind which the parser is over is the end
is_the_end : (f : Frame) → is_end f ≡ true → (place : ℕ) × (f ≡ frames.End place)
is_the_end (frames.Version n e r) h = absurd cc
is_the_end (frames.Custom c) h = absurd cc
is_the_end (frames.Section id b) h = absurd cc
is_the_end (frames.CodeStart n r k) h = absurd cc
is_the_end (frames.CodeEntry b) h = absurd cc
is_the_end (frames.End place) h = (place, refl)

pub calls_end : (fs : List Frame) (p q : Parser) (text rest : List ℕ) → is_over p.progress ≡ false → Calls p text fs q rest → is_over q.progress ≡ true → HaveEnded p text fs q
calls_end [] p q text rest going h over = let no' : false ≡ true = sym going ∙ ap (λ (v : Parser). is_over v.progress) h.0 ∙ over in absurd cc
calls_end (f ∷ []) p q text rest going h over =
    let c : Called p text (Ok (Parsed h.0 f)) q = subst (λ (v : Parser). Called p text (Ok (Parsed h.0 f)) v) h.3.0 h.2 in
    let end = is_the_end f (sym (parsed_is_over p c.piece c.eof h.0 f q c.parses) ∙ over) in
    record {
      before = [];
      last = p;
      left = text;
      size = h.0;
      place = end.0;
      whole = ap (λ (g : Frame). g ∷ []) end.1;
      calls = (refl, refl);
      called = subst (λ (g : Frame). Called p text (Ok (Parsed h.0 g)) q) end.1 c;
    }
calls_end (f ∷ (g ∷ gs)) p q text rest going h over =
    let still : is_over h.1.progress ≡ false = (call_cases h.1 (drop h.0 text) h.3.0 g h.3.1 h.3.2).0 in
    let e = calls_end (g ∷ gs) h.1 q (drop h.0 text) rest still h.3 over in
    record {
      before = f ∷ e.before;
      last = e.last;
      left = e.left;
      size = e.size;
      place = e.place;
      whole = ap (λ (xs : List Frame). f ∷ xs) e.whole;
      calls = (h.0, h.1, h.2, e.calls);
      called = e.called;
    }

-- behind the end, the frames before it are those of the module that the text is
pub calls_ended : (p q : Parser) (text rest : List ℕ) (fs : List Frame) → p.progress ≡ fresh → Calls p text fs q rest → is_over q.progress ≡ true
    → (ys : List Shape) × (shapes_of fs ≡ ys ++ the_end ∷ []) × IsModule p.settings text ys
calls_ended p q text rest fs first calls over =
    let e = calls_end fs p q text rest (ap is_over first) calls over in
    let m = end_given e.before p e.last q text e.left e.size e.place first e.calls e.called in
    (shapes_of e.before, ap shapes_of e.whole ∙ shapes_joined e.before (frames.End e.place), m.0)

-- with the end, the frames that calls gave are a front of those of the module
pub calls_with_end : (p q : Parser) (text rest : List ℕ) (fs : List Frame) (ys : List Shape) → p.progress ≡ fresh → p.offset + length text < 2 ^ 64
    → IsModule p.settings text ys → Calls p text fs q rest → (zs : List Shape) × (ys ++ the_end ∷ [] ≡ shapes_of fs ++ zs)
calls_with_end p q text rest fs ys first room m calls = over (is_over q.progress) refl
  where
    over : (b : Bool) → is_over q.progress ≡ b → (zs : List Shape) × (ys ++ the_end ∷ [] ≡ shapes_of fs ++ zs)
    over false going =
        let k = calls_first p q text rest fs ys first room m calls going in
        (k.0 ++ the_end ∷ [], ap (λ (xs : List Shape). xs ++ the_end ∷ []) k.1 ∙ append_assoc (shapes_of fs) k.0 (the_end ∷ []))
    over true e =
        let k = calls_ended p q text rest fs first calls e in
        let same : ys ≡ k.0 = modules_one p.settings text ys k.0 (omega (arith, room)) m k.2 in
        ([], ap (λ (xs : List Shape). xs ++ the_end ∷ []) same ∙ sym k.1 ∙ sym (append-nil (shapes_of fs)))

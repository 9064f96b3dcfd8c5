-- Programs whose bodies were walked have derivations that are shown, and the values of their runs fit what is shown.
use mathlib.Core.Path.{path_j}
use Rattle.std.proofs.Common.{◌≡◌, ◌∙◌, ◌⊎◌, inl, inr, ℕ, List, [], ◌∷◌, length, Option, Some, None, refl, sym, ap, subst, slice_get}
use Rattle.wasm_types.specs.trees.Types.{InnerOf, function}
use Rattle.wasm_types.specs.trees.Trees.{TypeTree}
use Rattle.wasm_types.specs.trees.Below.{expanded}
use Rattle.wasm_operators_immediates.specs.declared.frames.FrameKind.{FrameKind}
use Rattle.wasm_operators_immediates.specs.declared.frames.FrameKind.TheVariants as frames
use Rattle.wasm_operators_enums.specs.Op.{Op}
use Rattle.wasm_operators_encoding.specs.expressions.Code.{Code, close, plain, nested, turn}
use Rattle.wasm_operator_validator_rules.specs.Operands.{ValueType, Operand}
use Rattle.wasm_operator_validator_rules.specs.Context.{Context, Signature, Frame, Initialised, IsFunctionType, inside, initialised_at_first}
use Rattle.wasm_operator_validator_rules.specs.Typed.{Typed, MayClose, EndsAt, IsBody}
use Rattle.wasm_operator_validator_state.specs.resources.Meaning.{Meaning}
use Rattle.wasm_operator_validator_state.specs.State as known
use Rattle.wasm_operator_validator_state.specs.State.{Given, Saved, initialised}
use Rattle.wasm_operator_validator_state.specs.Bodies as bodies
use Rattle.wasm_operator_validator_state.specs.Bodies.{fresh}
use Rattle.wasm_operator_validator_soundness.specs.runs.Values.{Body, Function, Program, AllFit}
use Rattle.wasm_operator_validator_soundness.specs.runs.States.{State, Label, Activation, Answer}
use Rattle.wasm_operator_validator_soundness.specs.runs.ValidStates.{AreSet, Awaits, around_of, ActivationAwaits, IsValidStateBy}
use Rattle.wasm_operator_validator_soundness.specs.runs.Soundness.{body_context, IsValidBody, HasValidBody, IsValidProgram, IsStarted, Runs}
use Rattle.wasm_operator_validator_soundness.specs.runs.Places.{Path, start, next, within, past, turned, missing, Place, place, place_at, from_place, next_of, within_of, past_of, turned_of, missing_of, body_first, body_inside, body_frame, HasBodyBy, IsValidBy, places, IsPlace}
use Rattle.wasm_operator_validator_soundness.specs.shown.Leading.{Walks}
use Rattle.wasm_operator_validator_soundness.specs.shown.Shown as shown
use Rattle.wasm_operator_validator_soundness.specs.shown.Shown.{IsKnown, operands_in, Shows, ShownBy, IsWritten, ShowsPlace, seen, seen_at}
use Rattle.wasm_operator_validator_soundness.specs.shown.Programs.{IsWalked, AreWalked, IsShown, ShownDerivationsAreGiven, FitsShown, OnlyEnds, InnermostFits, RunsFitWhatIsShown}
use Rattle.wasm_operator_validator_soundness.proofs.RunsFitting.{all_below}
use Rattle.wasm_operator_validator_soundness.proofs.Placing.{stays_at_places}
use Rattle.wasm_operator_validator_soundness.proofs.Showing.{shown_operands_are_a_typing}
use Rattle.wasm_operator_validator_soundness.proofs.ShownPlaces.{places_are_shown}

-- ---- the derivation of a body

-- a typing of a body in a context, with what is shown
record BodyShown (g : Context) (params : ℕ) (c : Code) : Type 0 where
  meaning : Meaning
  first : known.State
  last : known.State
  walks : Walks meaning c first last
  typed : Typed (inside frames.Block g.results g) (shown.body_frame g (initialised_at_first params g.locals)) (initialised_at_first params g.locals) c []
  shows : ShownBy meaning c first last walks (inside frames.Block g.results g) (shown.body_frame g (initialised_at_first params g.locals))
      (initialised_at_first params g.locals) [] typed

one_signature : (t : TypeTree) (b c : Signature) → IsFunctionType t b → IsFunctionType t c → b ≡ c
one_signature t b c e f =
    let h : ◌≡◌ {A = InnerOf TypeTree} (function b.params b.results) (function c.params c.results) = sym e ∙ f in
    let ps : b.params ≡ c.params = cc in
    let rs : b.results ≡ c.results = cc in
    λ i. record { params = ps i; results = rs i }

module _ (p : Program) where
  body_shown : (t : TypeTree) (f : Body) (b : Signature) → IsFunctionType t b → IsValidBody p t f → IsWalked p t f
      → BodyShown (body_context p t b f) (length b.params) f.code
  body_shown t f b e v w =
      let x = shown_operands_are_a_typing w.meaning w.given w.block w.saved f.code w.last w.walks v.typed.expression in
      let y : BodyShown (bodies.body_context w.meaning w.given w.block) w.given.params f.code = record {
        meaning = w.meaning;
        first = fresh w.given w.block w.saved;
        last = w.last;
        walks = w.walks;
        typed = x.body.typed;
        shows = x.shown;
      } in
      let z : BodyShown (body_context p t w.signature f) (length w.signature.params) f.code
      = subst (λ (g : Context). BodyShown g (length w.signature.params) f.code) w.within
      (subst (λ (n : ℕ). BodyShown (bodies.body_context w.meaning w.given w.block) n f.code) w.params y) in
      subst (λ (c : Signature). BodyShown (body_context p t c f) (length c.params) f.code) (one_signature t w.signature b w.function e) z

module _ (p : Program) (v : IsValidProgram p) (w : AreWalked p) where
  abbrev body_place : (t : TypeTree) (o : Option Body) → HasValidBody p t o → ((f : Body) → o ≡ Some f → IsWalked p t f) → Option Place
  body_place t None b u = None
  body_place t (Some f) b u =
      place (body_inside p t b.signature f) (body_frame b.signature f) (body_first b.signature f) f.code [] (body_shown p t f b.signature b.function b (u f refl)).typed

  abbrev function_place : (x : ℕ) (o : Option TypeTree) → slice_get p.«module».functions x ≡ o → Option Place
  function_place x None e = None
  function_place x (Some t) e = let r = v.functions x t e in body_place (r.0).type (r.0).body (r.2).body (λ f q. w x r.0 f r.1 q)

  abbrev derivations : ℕ → Option Place
  derivations x = function_place x (slice_get p.«module».functions x) refl

  same_place : (x : ℕ) (o : Option TypeTree) (e : slice_get p.«module».functions x ≡ o) → derivations x ≡ function_place x o e
  same_place x o e = path_j (λ (q : Option TypeTree) (d : slice_get p.«module».functions x ≡ q). derivations x ≡ function_place x q d) refl e

  placed_body : (x : ℕ) (t : TypeTree) (o : Option Body) (b : HasValidBody p t o) (u : (f : Body) → o ≡ Some f → IsWalked p t f) → derivations x ≡ body_place t o b u
      → HasBodyBy (places derivations) p t o
  placed_body x t None b u e = tt
  placed_body x t (Some f) b u e = record {
    signature = b.signature;
    function = b.function;
    locals = b.locals;
    expression = b.typed.expression;
    index = x;
    typed = ((body_shown p t f b.signature b.function b (u f refl)).typed, e);
  }

  placed_valid : IsValidBy (places derivations) p
  placed_valid = record {
    standard = v.standard;
    types = v.types;
    functions = λ x t e. let r = v.functions x t e in (
      r.0,
      r.1,
      record {
        below = (r.2).below;
        standard = (r.2).standard;
        function = (r.2).function;
        body = placed_body x (r.0).type (r.0).body (r.2).body (λ f q. w x r.0 f r.1 q) (same_place x (Some t) e);
      },
    );
    own = v.own;
    tags = v.tags;
  }

  is_it : (k l : Place) → ◌≡◌ {A = Option Place} (Some k) (Some l) → IsShown k → IsShown l
  is_it k l e i = let h : k ≡ l = cc in subst IsShown h i

  no_place : (l : Place) → ◌≡◌ {A = Option Place} None (Some l) → IsShown l
  no_place l e = cc

  body_is_shown : (t : TypeTree) (o : Option Body) (b : HasValidBody p t o) (u : (f : Body) → o ≡ Some f → IsWalked p t f) (l : Place) → body_place t o b u ≡ Some l → IsShown l
  body_is_shown t None b u l e = no_place l e
  body_is_shown t (Some f) b u l e =
      let s = body_shown p t f b.signature b.function b (u f refl) in
      is_it _ l e (record { meaning = s.meaning; first = s.first; last = s.last; walks = s.walks; shown = s.shows })

  function_is_shown : (x : ℕ) (o : Option TypeTree) (e : slice_get p.«module».functions x ≡ o) (l : Place) → function_place x o e ≡ Some l → IsShown l
  function_is_shown x None e l h = no_place l h
  function_is_shown x (Some t) e l h = let r = v.functions x t e in body_is_shown (r.0).type (r.0).body (r.2).body (λ f q. w x r.0 f r.1 q) l h

pub shown_derivations_are_given : ShownDerivationsAreGiven
shown_derivations_are_given p v w =
    (derivations p v w, placed_valid p v w, λ x l e. function_is_shown p v w x (slice_get p.«module».functions x) refl l e)

-- ---- places that are not written

abbrev Step : Type 0
Step = (g : Context) (f : Frame) (set : Initialised) (c : Code) (s : List Operand) → Typed g f set c s → Option Place

-- only the end of a frame
abbrev IsEnd : Place → Type 0
IsEnd l = (o : Op) × (l.code ≡ close o)

nowhere : (l : Place) → ◌≡◌ {A = Option Place} None (Some l) → IsEnd l
nowhere l e = cc

-- the step goes nowhere from an end
abbrev Stops : Step → Type 0
Stops step = (g : Context) (f : Frame) (set : Initialised) (c : Code) (s : List Operand) (t : Typed g f set c s) (o : Op) → c ≡ close o → step g f set c s t ≡ None

next_stops : Stops next_of
next_stops g f set (close o) s t q e = refl
next_stops g f set (plain o more) s t q e = cc
next_stops g f set (nested o body more) s t q e = cc
next_stops g f set (turn o more) s t q e = cc

within_stops : Stops within_of
within_stops g f set (close o) s t q e = refl
within_stops g f set (plain o more) s t q e = cc
within_stops g f set (nested o body more) s t q e = cc
within_stops g f set (turn o more) s t q e = cc

past_stops : Stops past_of
past_stops g f set (close o) s t q e = refl
past_stops g f set (plain o more) s t q e = cc
past_stops g f set (nested o body more) s t q e = cc
past_stops g f set (turn o more) s t q e = cc

turned_stops : Stops turned_of
turned_stops g f set (close o) s t q e = refl
turned_stops g f set (plain o more) s t q e = cc
turned_stops g f set (nested o body more) s t q e = cc
turned_stops g f set (turn o more) s t q e = cc

stopped : (step : Step) → Stops step → (k : Option Place) → ((j : Place) → k ≡ Some j → IsEnd j) → (l : Place) → from_place step k ≡ Some l → IsEnd l
stopped step stops None at l e = nowhere l e
stopped step stops (Some j) at l e =
    let (o, c) = at j refl in
    nowhere l (sym (stops j.context j.frame j.set j.code j.operands j.typed o c) ∙ e)

is_end : (g : Context) (f : Frame) (set : Initialised) (o : Op) (s : List Operand) (t : Typed g f set (close o) s) (l : Place) → place g f set (close o) s t ≡ Some l → IsEnd l
is_end g f set o s t l e =
    let h : ◌≡◌ {A = Place} (record { context = g; frame = f; set = set; code = close o; operands = s; typed = t }) l = cc in
    (o, ap (λ (x : Place). x.code) (sym h))

missing_ends : (g : Context) (k : FrameKind) (b : Signature) (before set : Initialised) (c : Code) (s : List Operand)
    (t : Typed g (record { kind = k; block = b; before = before }) set c s) (l : Place)
    → missing_of g (record { kind = k; block = b; before = before }) set c s t ≡ Some l → IsEnd l
missing_ends g frames.If b before set (close o) s t l e = is_end g (record { kind = frames.If; block = b; before = before }) before o _ _ l e
missing_ends g frames.Block b before set (close o) s t l e = nowhere l e
missing_ends g frames.Else b before set (close o) s t l e = nowhere l e
missing_ends g frames.Loop b before set (close o) s t l e = nowhere l e
missing_ends g frames.TryTable b before set (close o) s t l e = nowhere l e
missing_ends g frames.LegacyTry b before set (close o) s t l e = nowhere l e
missing_ends g frames.LegacyCatch b before set (close o) s t l e = nowhere l e
missing_ends g frames.LegacyCatchAll b before set (close o) s t l e = nowhere l e
missing_ends g k b before set (plain o more) s t l e = nowhere l e
missing_ends g k b before set (nested o body more) s t l e = nowhere l e
missing_ends g k b before set (turn o more) s t l e = nowhere l e

missed : (k : Option Place) (l : Place) → from_place missing_of k ≡ Some l → IsEnd l
missed None l e = nowhere l e
missed (Some j) l e = missing_ends j.context j.frame.kind j.frame.block j.frame.before j.set j.code j.operands j.typed l e

unwritten : (d : Option Place) (q : Path) → (IsWritten q → ⊥) → (l : Place) → place_at d q ≡ Some l → IsEnd l
unwritten d start n l e = absurd (n tt)
unwritten d (next q) n l e = stopped next_of next_stops (place_at d q) (unwritten d q n) l e
unwritten d (within q) n l e = stopped within_of within_stops (place_at d q) (unwritten d q n) l e
unwritten d (past q) n l e = stopped past_of past_stops (place_at d q) (unwritten d q n) l e
unwritten d (turned q) n l e = stopped turned_of turned_stops (place_at d q) (unwritten d q n) l e
unwritten d (missing q) n l e = missed (place_at d q) l e

written_or_not : (q : Path) → IsWritten q ⊎ (IsWritten q → ⊥)
written_or_not start = inl tt
written_or_not (next q) = written_or_not q
written_or_not (within q) = written_or_not q
written_or_not (past q) = written_or_not q
written_or_not (turned q) = written_or_not q
written_or_not (missing q) = inr (λ i. i)

-- without a derivation there is no place
no_derivation : (q : Path) → place_at None q ≡ None
no_derivation start = refl
no_derivation (next q) = ap (from_place next_of) (no_derivation q)
no_derivation (within q) = ap (from_place within_of) (no_derivation q)
no_derivation (past q) = ap (from_place past_of) (no_derivation q)
no_derivation (turned q) = ap (from_place turned_of) (no_derivation q)
no_derivation (missing q) = ap (from_place missing_of) (no_derivation q)

-- ---- runs

-- a place is shown, or only an end is left there
record ShownThere (l : Place) : Type 0 where
  meaning : Meaning
  here : known.State
  shows : Shows meaning here l.context l.frame l.set l.operands

shown_at : (d : Option Place) → ((k : Place) → d ≡ Some k → IsShown k) → (q : Path) (l : Place) → place_at d q ≡ Some l → IsWritten q ⊎ (IsWritten q → ⊥) → ShownThere l ⊎ IsEnd l
shown_at None is q l e i = inr (nowhere l (sym (no_derivation q) ∙ e))
shown_at (Some k) is q l e (inr n) = inr (unwritten (Some k) q n l e)
shown_at (Some k) is q l e (inl i) =
    let h = is k refl in
    let s = places_are_shown h.meaning k.code h.first h.last h.walks k.context k.frame k.set k.operands k.typed h.shown q i l e in
    inl (record { meaning = h.meaning; here = (s.at).here; shows = s.shows })

module _ (p : Program) (act : Activation) where
  fits_there : (l : Place) → AreSet l.set act.locals → AllFit p act.innermost.values l.operands → l.code ≡ act.innermost.code → ShownThere l ⊎ IsEnd l → FitsShown p act ⊎ OnlyEnds act
  fits_there l set fit c (inl s) = inl (record {
    meaning = s.meaning;
    here = s.here;
    locals = subst (λ (x : Initialised). AreSet x act.locals) s.shows.locals set;
    values = λ k. all_below p act.innermost.values l.operands (operands_in s.meaning s.here.opens) fit (s.shows.shown k);
  })
  fits_there l set fit c (inr (o, e)) = inr (o, sym c ∙ e)

  activation_fits : (D : ℕ → Option Place) → ((x : ℕ) (l : Place) → D x ≡ Some l → IsShown l) → ActivationAwaits (places D) p act [] → FitsShown p act ⊎ OnlyEnds act
  activation_fits D is a =
      let k = (a.labels).0 in
      let (t, e) = k.typed in
      fits_there _ k.are_set k.fit refl (shown_at (D (k.place).0) (is (k.place).0) (k.place).1 _ e (written_or_not (k.place).1))

state_fits : (p : Program) (D : ℕ → Option Place) → ((x : ℕ) (l : Place) → D x ≡ Some l → IsShown l) → (results : List ValueType) (t : State)
    → IsValidStateBy (places D) p results t → InnermostFits p t
state_fits p D is results [] v = v
state_fits p D is results (act ∷ acts) v = activation_fits p act D is v.0

pub runs_fit_what_is_shown : RunsFitWhatIsShown
runs_fit_what_is_shown p s results v w i answers t r =
    let (D, by, is) = shown_derivations_are_given p v w in
    state_fits p D is results t (stays_at_places D p s results by i answers t r)

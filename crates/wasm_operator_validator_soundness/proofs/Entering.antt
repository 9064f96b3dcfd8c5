-- Blocks that begin.
use Rattle.std.proofs.Common.{◌≡◌, List, ◌∷◌, ◌++◌, Some, Bool, true, false, refl, sym, subst, []}
use Rattle.wasm_operators_immediates.specs.declared.block.BlockType.{BlockType}
use Rattle.wasm_operators_immediates.specs.declared.frames.FrameKind.{FrameKind}
use Rattle.wasm_operators_immediates.specs.declared.frames.FrameKind.TheVariants as frames
use Rattle.wasm_operators_enums.specs.declared.control.ControlOperator.TheVariants as control
use Rattle.wasm_operators_enums.specs.declared.role.Effect.TheVariants as effects
use Rattle.wasm_operators_enums.specs.Op as op
use Rattle.wasm_operators_enums.specs.Op.{Op, ParametricTree, ExceptionTree, ContinuationTree}
use Rattle.wasm_operators_encoding.specs.expressions.Code.{Code, nested, IsIn}
use Rattle.wasm_operator_validator_rules.specs.Operands.{ValueType, Operand, known, AllBelow, stack}
use Rattle.wasm_operator_validator_rules.specs.Context.{Context, Initialised, Signature, Frame, IsBlockType, label_of, inside}
use Rattle.wasm_operator_validator_rules.specs.InstructionTypes.{i32_type}
use Rattle.wasm_operator_validator_rules.specs.Typed.{entry_of}
use Rattle.wasm_operator_validator_soundness.specs.runs.Notes.{Layer, Notes, over_block, IsAlong}
use Rattle.wasm_operator_validator_soundness.specs.runs.Places.{IsValidBy}
use Rattle.wasm_operator_validator_soundness.specs.runs.Values.{Program, Value, Fits, AllFit}
use Rattle.wasm_operator_validator_soundness.specs.runs.States.{Continuation, behind, again, Handlers, no_handlers, table, clauses, Activation, taken_by, Answer}
use Rattle.wasm_operator_validator_soundness.specs.runs.States.{next, Move, done}
use Rattle.wasm_operator_validator_soundness.specs.runs.Machine.{block_signature, second_part, either_part, takes}
use Rattle.wasm_operator_validator_soundness.specs.runs.Machine.{within, opens, enter}
use Rattle.wasm_operator_validator_soundness.proofs.RunsFitting.{all_below}
use Rattle.wasm_operator_validator_soundness.specs.runs.ValidStates.{AreSet, Around, around_of, at, frame_of}
use Rattle.wasm_operator_validator_soundness.specs.runs.ValidStates.{LoopsBack, HandlersFit}
use Rattle.wasm_operator_validator_soundness.proofs.RunsInvariant.{here, IsOkay, further}
use Rattle.wasm_operator_validator_soundness.proofs.Combining.{done_okay, asks_okay, found_okay, pops_okay, takes_okay}
use Rattle.wasm_operator_validator_soundness.proofs.Values.{block_type_is, opened_same, second_typed}
use Rattle.wasm_operator_validator_soundness.proofs.Standing.{values_over, Here}

module _ (N : Notes) (p : Program) (valid : IsValidBy N p) (final : List ValueType) (a : Answer) (act : Activation) (acts : List Activation) (h : Here N p final act acts) where
  abbrev w : Around
  w = around_of act

  abbrev g : Context
  g = here p a act acts

  abbrev f : Frame
  f = record { kind = h.kind; block = act.innermost.block; before = h.before }

  abbrev vs : List Value
  vs = act.innermost.values

  abbrev kind : FrameKind
  kind = h.kind

  abbrev before : Initialised
  before = h.before

  abbrev set : Initialised
  set = h.set

  abbrev are_set : AreSet h.set act.locals
  are_set = h.are_set

  abbrev s : List Operand
  s = h.operands

  abbrev fit : AllFit p act.innermost.values h.operands
  fit = h.fit

  abbrev Okay : Move → Type 0
  Okay m = IsOkay N p final m

  -- the instructions to come are typed, and stand where they may
  abbrev Goes : Initialised → Code → List Operand → Type 0
  Goes init more m = IsIn h.kind more × (n : N.Note) × IsAlong N h.root n × N.Holds n g f init more m

  -- ---- blocks

  -- behind the block that begins
  abbrev pub GoesPast : Code → List Operand → Type 0
  GoesPast more m = IsIn h.kind more × N.Holds (N.past h.place) g f set more m

  -- a block's instructions begin, or a part of them
  pub within_okay : (b : Signature) (c : Continuation) (q : Handlers) (body : Code) (ws : List Value) (more : Code) (rest : List Operand) (j : FrameKind) (init : Initialised) (place : N.Note)
      → AllFit p ws (stack b.params ++ rest) → AreSet init act.locals → IsIn j body → IsAlong N (N.within h.place) place
      → N.Holds place (at p w (taken_by c b ∷ g.labels) (false ∷ g.catches)) (frame_of p w j b set) init body (stack b.params)
      → ((us : List Value) → LoopsBack N p w act.locals (N.within h.place) c b (record act.innermost { values = us; code = more } ∷ act.around))
      → ((us : List Value) → HandlersFit N p w act.locals (N.within h.place) q b (record act.innermost { values = us; code = more } ∷ act.around))
      → GoesPast more (stack b.results ++ rest)
      → Okay (takes p a b.params ws (λ args us. done (next (within p a act acts b c q body args us more ∷ acts))))
  within_okay b c q body ws more rest j init place y i ib al tb l k t = takes_okay N p final a b.params ws rest _ y (λ args us x z.
      done_okay N p final (next (within p a act acts b c q body args us more ∷ acts)) (
        record {
          locals = h.locals;
          results = h.results;
          labels = (
            record {
              root = N.within h.place;
              place = place;
              along = al;
              around = tt;
              kind = j;
              inside = ib;
              before = set;
              set = init;
              are_set = i;
              operands = stack b.params;
              fit = x;
              typed = tb;
              loops = l us;
              handlers = k us;
              caught = tt;
            },
            (
              record {
                root = h.root;
                place = N.past h.place;
                along = further N h.root h.place over_block h.along;
                around = (h.place, refl, refl);
                kind = kind;
                inside = t.0;
                before = before;
                set = set;
                are_set = are_set;
                operands = rest;
                fit = z;
                typed = t.1;
                loops = h.loops;
                handlers = h.handlers;
                caught = h.caught;
              },
              h.around,
            ),
          );
        },
        h.below,
      ))

  pub opens_okay : (bt : BlockType) (b : Signature) (c : Continuation) (q : Handlers) (body : Code) (ws : List Value) (more : Code) (rest : List Operand) (j : FrameKind) (init : Initialised) (place : N.Note)
      → IsBlockType g bt b → AllFit p ws (stack b.params ++ rest) → AreSet init act.locals → IsIn j body → IsAlong N (N.within h.place) place
      → N.Holds place (at p w (taken_by c b ∷ g.labels) (false ∷ g.catches)) (frame_of p w j b set) init body (stack b.params)
      → ((us : List Value) → LoopsBack N p w act.locals (N.within h.place) c b (record act.innermost { values = us; code = more } ∷ act.around))
      → ((us : List Value) → HandlersFit N p w act.locals (N.within h.place) q b (record act.innermost { values = us; code = more } ∷ act.around))
      → GoesPast more (stack b.results ++ rest) → Okay (opens p a act acts bt c q body ws more)
  opens_okay bt b c q body ws more rest j init place x y i ib al tb l k t =
      found_okay N p final (block_signature p.«module» bt) b _ (block_type_is g bt b x) (within_okay b c q body ws more rest j init place y i ib al tb l k t)

  pub if_okay : (cond : Bool) (bt : BlockType) (b : Signature) (body : Code) (ws : List Value) (more : Code) (rest : List Operand) → IsBlockType g bt b → AllFit p ws (stack b.params ++ rest)
      → IsIn frames.If body → N.Holds (N.within h.place) (inside frames.If b.results g) (frame_of p w frames.If b set) set body (stack b.params)
      → GoesPast more (stack b.results ++ rest) → Okay (opens p a act acts bt behind no_handlers (either_part cond body) ws more)
  if_okay true bt b body ws more rest x y ib tb t =
      opens_okay bt b behind no_handlers body ws more rest frames.If set (N.within h.place) x y are_set ib ([], refl) tb (λ us. tt) (λ us. tt) t
  if_okay false bt b body ws more rest x y ib tb t =
      let r = second_typed (inside frames.If b.results g) b set N (N.within h.place) set body (stack b.params) (N.within h.place) ([], refl) ib tb in
      opens_okay bt b behind no_handlers (second_part body) ws more rest r.0 set r.2 x y are_set r.1 r.3 r.4 (λ us. tt) (λ us. tt) t

  -- a block of this kind, its type aside
  abbrev pub Nested : FrameKind → Signature → List Operand → Code → Type 0
  Nested j b rest body = AllBelow s (stack (entry_of j b) ++ rest) × N.Holds (N.within h.place) (inside j (label_of j b) g) (frame_of p w j b set) set body (stack b.params)

  pub nests_same : (j k : FrameKind) → Some (effects.Nests j) ≡ Some (effects.Nests k) → j ≡ k
  nests_same j k e = cc

  -- one layer of the typing
  abbrev pub Opened : Code → Type 0
  Opened c = Layer N.Note N.next N.within N.past N.turned N.missing N.Holds h.place g f set c s

  pub enter_okay : (o : Op) (body more : Code) → IsIn kind (nested o body more) → Opened (nested o body more) → Okay (enter p a act acts o body more)
  enter_okay (op.Control (control.Block bt)) body more i t =
      let n = subst (λ (j : FrameKind). Nested j t.1 t.2 body) (sym (opened_same frames.Block t.0 t.3.0)) (t.4, t.5) in
      opens_okay bt t.1 behind no_handlers body vs more t.2 frames.Block set (N.within h.place) t.3.1 (all_below p vs s _ fit n.0) are_set
      (subst (λ (j : FrameKind). IsIn j body) (sym (nests_same frames.Block i.0 i.1)) i.2) ([], refl) n.1 (λ us. tt) (λ us. tt) (i.3, t.6)
  enter_okay (op.Control (control.Loop bt)) body more i t =
      let n = subst (λ (j : FrameKind). Nested j t.1 t.2 body) (sym (opened_same frames.Loop t.0 t.3.0)) (t.4, t.5) in
      let ib = subst (λ (j : FrameKind). IsIn j body) (sym (nests_same frames.Loop i.0 i.1)) i.2 in
      opens_okay bt t.1 (again body) no_handlers body vs more t.2 frames.Loop set (N.within h.place) t.3.1 (all_below p vs s _ fit n.0) are_set
      ib ([], refl) n.1 (λ us. (frames.Loop, ib, set, set, are_set, n.1)) (λ us. tt) (i.3, t.6)
  enter_okay (op.Control (control.If bt)) body more i t =
      let n = subst (λ (j : FrameKind). Nested j t.1 t.2 body) (sym (opened_same frames.If t.0 t.3.0)) (t.4, t.5) in
      pops_okay N p final vs (known i32_type) (stack (t.1).params ++ t.2) _ (values_over N p valid final a act acts h (t.1).params i32_type t.2 (all_below p vs s _ fit n.0)) (λ c ws x y.
      asks_okay N p final (Fits p c i32_type) _ x
      (if_okay a.condition bt t.1 body ws more t.2 t.3.1 y (subst (λ (j : FrameKind). IsIn j body) (sym (nests_same frames.If i.0 i.1)) i.2) n.1 (i.3, t.6)))
  enter_okay (op.Exception (op.Try bt)) body more i t =
      let n = subst (λ (j : FrameKind). Nested j t.1 t.2 body) (sym (opened_same frames.LegacyTry t.0 t.3.0)) (t.4, t.5) in
      let ib = subst (λ (j : FrameKind). IsIn j body) (sym (nests_same frames.LegacyTry i.0 i.1)) i.2 in
      opens_okay bt t.1 behind (clauses body) body vs more t.2 frames.LegacyTry set (N.within h.place) t.3.1 (all_below p vs s _ fit n.0) are_set
      ib ([], refl) n.1 (λ us. tt) (λ us. (set, set, are_set, stack (t.1).params, ib, n.1)) (i.3, t.6)
  enter_okay (op.Exception (op.TryTable y)) body more i t =
      let n = subst (λ (j : FrameKind). Nested j t.1 t.2 body) (sym (opened_same frames.TryTable t.0 t.3.0)) (t.4, t.5) in
      opens_okay y.ty t.1 behind (table y.catches) body vs more t.2 frames.TryTable set (N.within h.place) t.3.1 (all_below p vs s _ fit n.0) are_set
      (subst (λ (j : FrameKind). IsIn j body) (sym (nests_same frames.TryTable i.0 i.1)) i.2) ([], refl) n.1 (λ us. tt) (λ us. t.3.2.1) (i.3, t.6)
  enter_okay o body more i t = absurd t.3.1

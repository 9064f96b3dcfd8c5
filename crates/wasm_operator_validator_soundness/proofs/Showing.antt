-- What a validator shows along code is a typing of it: the derivation is made from the end of the code to its beginning, so that each place
-- may be typed with operands as low as what is shown there.
use Rattle.std.proofs.Common.{◌≡◌, ◌↔◌, ◌∙◌, ℕ, List, [], ◌∷◌, ◌++◌, Bool, true, false, Option, Some, None, refl, sym, ap, subst, reverse, map}
use Rattle.wasm_operators_immediates.specs.declared.block.BlockType.{BlockType}
use Rattle.wasm_operators_immediates.specs.declared.frames.FrameKind.{FrameKind}
use Rattle.wasm_operators_immediates.specs.declared.frames.FrameKind.TheVariants as frames
use Rattle.wasm_operators_enums.specs.declared.control.ControlOperator.TheVariants as control
use Rattle.wasm_operators_enums.specs.Op as op
use Rattle.wasm_operators_enums.specs.Op.{Op}
use Rattle.wasm_operators_enums.specs.declared.role.Effect.{Effect}
use Rattle.wasm_operators_enums.specs.declared.role.Effect.TheVariants as effects
use Rattle.wasm_operators_enums.specs.declared.role.Role.TheVariants as role
use Rattle.wasm_operators_enums.specs.Roles.{role_of, effect, clause}
use Rattle.wasm_operators_encoding.specs.expressions.Code.{Code, close, plain, nested, turn, IsIn, IsExpression}
use Rattle.wasm_operator_validator_rules.specs.Operands.{ValueType, Operand, AllBelow, stack}
use Rattle.wasm_operator_validator_rules.specs.Context.{Context, Initialised, Signature, Frame, label_of, inside, in_clause, initialised_at_first}
use Rattle.wasm_operator_validator_rules.specs.Row.{after}
use Rattle.wasm_operator_validator_rules.specs.Typed.{Steps, OpensFrame, entry_of, MayClose, EndsAt, Turns, part_kind, other_part, in_part, Typed, IsBody}
use Rattle.wasm_operator_validator_state.specs.resources.Meaning.{Meaning}
use Rattle.wasm_operator_validator_state.specs.State.{Given, Saved, Open, State, Covers, signature_of, initialised, results, context}
use Rattle.wasm_operator_validator_state.specs.Steps.{StacksOf, Stacks, SameFrames, begun}
use Rattle.wasm_operator_validator_state.specs.Bodies.{fresh, body_context}
use Rattle.wasm_operator_validator_state.specs.laws.Operands.{all_below_refl, all_below_trans}
use Rattle.wasm_operator_validator_state.specs.laws.Accepting.{Image, stacks_below}
use Rattle.wasm_operator_validator_state.specs.laws.Frames.{context_by, covers_nothing}
use Rattle.wasm_operator_validator_soundness.specs.shown.Leading.{Leads, Walks, Nested, Turned, Closed}
use Rattle.wasm_operator_validator_soundness.specs.shown.Shown.{IsKnown, operands_in, IsOpenFrame, IsInnermost, Shows, ShownBy, IsShownTyping, body_frame, ShownOperandsAreATyping}
use Rattle.wasm_operator_validator_soundness.proofs.ShownFrames.{IsLike, Innermost, same_innermost, innermost, kept_context, like_context, known_stacks, IsLowest, lowest, led, Left, Around, Begun, begun_in, around_it, code_left}

-- ---- places

-- a place in code whose innermost frame is p, with others around it
record Placed (m : Meaning) (σ : State) (p : Open) (outer : List Open) (g : Context) (f : Frame) (set : Initialised) : Type 0 where
  opens : σ.opens ≡ p ∷ outer
  context : g ≡ context m σ.given σ.opens
  frame : IsOpenFrame m σ.given p f
  locals : set ≡ initialised m σ.given σ.inits

shows : (m : Meaning) (σ : State) (p : Open) (outer : List Open) (g : Context) (f : Frame) (set : Initialised) (s : List Operand) → Placed m σ p outer g f set
    → Stacks m σ s → (IsKnown σ.opens → AllBelow s (operands_in m σ.opens)) → Shows m σ g f set s
shows m σ p outer g f set s at c k = record {
  context = at.context;
  frame = subst (λ (x : List Open). IsInnermost m σ.given f x) (sym at.opens) at.frame;
  locals = at.locals;
  stands = c;
  shown = k;
}

-- code is typed and shown from each of the operands that are low enough
record Built (m : Meaning) (c : Code) (σ τ : State) (w : Walks m c σ τ) (g : Context) (f : Frame) (set : Initialised) : Type 0 where
  operands : List Operand
  stands : Stacks m σ operands
  from : (k : List Operand) → AllBelow k operands → Stacks m σ k → (IsKnown σ.opens → AllBelow k (operands_in m σ.opens))
      → (t : Typed g f set c k) × ShownBy m c σ τ w g f set k t

-- a frame of the rules stays the one that is shown
like_frame : (m : Meaning) (w v : Given) (p q : Open) (f : Frame) → v ≡ w → IsLike p q → IsOpenFrame m w p f → IsOpenFrame m v q f
like_frame m w v p q f e l i = record {
  kind = i.kind ∙ sym l.kind;
  results = i.results ∙ ap (λ (b : BlockType). (signature_of m b).results) (sym l.block);
  params = λ k. i.params k ∙ ap (λ (b : BlockType). (signature_of m b).params) (sym l.block);
  before = i.before ∙ rw (e, l.before) refl;
}

-- ---- the end of a frame

at_end : (m : Meaning) (o : Op) (σ τ : State) (w : Leads m σ o τ) (g : Context) (f : Frame) (set : Initialised) (p : Open) (outer : List Open)
    → Placed m σ p outer g f set → IsIn p.kind (close o) → Built m (close o) σ τ w g f set
at_end m o σ τ w g f set p outer at i =
    let d : Closed m σ o p outer τ = led m σ o τ p outer effects.Closes at.opens i w in
    let c : Stacks m σ (stack (results m p)) = subst (λ (x : List Open). StacksOf m x (stack (results m p))) (sym at.opens) d.ends in
    record {
      operands = stack (results m p);
      stands = c;
      from = λ k b c' l. (
        (
          subst (λ (ts : List ValueType). AllBelow k (stack ts)) (sym at.frame.results) b,
          may_close m p f.kind f.block at.frame.kind at.frame.results (at.frame.params) d.may,
          subst (λ (x : Context). EndsAt x o) (sym at.context) d.at,
        ),
        shows m σ p outer g f set k at c' l,
      );
    }
  where
    by_block : (k : FrameKind) (b c : Signature) → c.results ≡ b.results → (k ≡ frames.If → c.params ≡ b.params) → MayClose k b → MayClose k c
    by_block frames.If b c r q y = rw (r, q refl) y
    by_block k b c r q y = tt

    may_close : (m : Meaning) (p : Open) (k : FrameKind) (c : Signature) → k ≡ p.kind → c.results ≡ results m p
        → (k ≡ frames.If → c.params ≡ (signature_of m p.block).params) → MayClose p.kind (signature_of m p.block) → MayClose k c
    may_close m p k c e r q y = by_block k (signature_of m p.block) c r q (subst (λ (x : FrameKind). MayClose x (signature_of m p.block)) (sym e) y)

-- ---- an operator that leaves the frame

module _ (m : Meaning) (o : Op) (more : Code) (σ ρ τ : State) (h : Leads m σ o ρ) (w : Walks m more ρ τ) (g : Context) (f : Frame) (set : Initialised)
    (p : Open) (outer : List Open) (at : Placed m σ p outer g f set) where
  abbrev WalksPlain : Walks m (plain o more) σ τ
  WalksPlain = (ρ, h, w)

  -- where it comes to
  placed_after : effect (role_of o) p.kind ≡ Some effects.Stays → (i : Innermost p outer ρ.opens) → Placed m ρ i.top outer g f (after o set)
  placed_after e i =
      let d = led m σ o ρ p outer effects.Stays at.opens e h in
      record {
        opens = i.opens;
        context = at.context ∙ kept_context m σ.given ρ.given σ.opens ρ.opens p outer at.opens d.given i;
        frame = like_frame m σ.given ρ.given p i.top f d.given i.like at.frame;
        locals = ap (after o) at.locals ∙ sym d.set;
      }

  at_plain : effect (role_of o) p.kind ≡ Some effects.Stays → Built m more ρ τ w g f (after o set) → Built m (plain o more) σ τ WalksPlain g f set
  at_plain e b =
      let d = led m σ o ρ p outer effects.Stays at.opens e h in
      let low = lowest m ρ.opens b.operands b.stands in
      let (s, n, c, st, below) = (d.stacks low.operands).0 low.stands in
      record {
        operands = s;
        stands = c;
        from = λ k l c' known.
            let (popped, pushed, rest, row, u, q) = st in
            let st' : Steps g set o k n = subst (λ (y : Context). Steps y set o k n) (sym at.context)
            (subst (λ (y : Initialised). Steps (context m σ.given σ.opens) y o k n) (sym at.locals) (popped, pushed, rest, row, all_below_trans k s _ l u, q)) in
            let on = b.from n (all_below_trans n low.operands b.operands below low.below) ((d.stacks n).1 (s, n, c, st, all_below_refl n))
            (λ j. all_below_trans n low.operands _ below (low.shown j)) in
            ((n, st', on.0), (shows m σ p outer g f set k at c' known, on.1));
      }

-- ---- an operator that opens a frame

inner_context : (m : Meaning) (w : Given) (k : FrameKind) (b : BlockType) (inits : List ℕ) (below : List Open) (q top : Open) (outer : List Open) → below ≡ top ∷ outer
    → IsLike (begun k b inits) q → inside k (label_of k (signature_of m b)) (context m w below) ≡ context m w (q ∷ below)
inner_context m w k b inits below q top outer e l =
    subst (λ (x : List Open). inside k (label_of k (signature_of m b)) (context m w x) ≡ context m w (q ∷ x)) (sym e) (like_context m w (begun k b inits) q (top ∷ outer) l)

same_set : (m : Meaning) (w v : Given) (is js : List ℕ) → v ≡ w → js ≡ is → initialised m w is ≡ initialised m v js
same_set m w v is js e f = rw (e, f) refl

module _ (m : Meaning) (o : Op) (body more : Code) (σ ρ κ τ : State) (h : Leads m σ o ρ) (v : Walks m body ρ κ) (w : Walks m more κ τ) (g : Context) (f : Frame)
    (set : Initialised) (p : Open) (outer : List Open) (at : Placed m σ p outer g f set) (j : FrameKind) (d : Nested m σ o j ρ)
    (b : Begun m σ p outer j d.block ρ d.left) (l : Around m σ p outer (stack (signature_of m d.block).results) d.left κ) where
  abbrev WalksNested : Walks m (nested o body more) σ τ
  WalksNested = (ρ, κ, h, v, w)

  abbrev type : Signature
  type = signature_of m d.block

  abbrev inner_frame : Frame
  inner_frame = record { kind = j; block = type; before = set }

  placed_in : Placed m ρ b.inner d.left (inside j (label_of j type) g) inner_frame set
  placed_in =
      let around = kept_context m σ.given σ.given σ.opens d.left p outer at.opens refl b.around in
      let inner = inner_context m σ.given j d.block σ.inits d.left b.inner b.around.top outer b.around.opens b.like in
      record {
        opens = b.opens;
        context = ap (inside j (label_of j type)) (at.context ∙ around) ∙ inner ∙ ap (context m σ.given) (sym b.opens)
            ∙ sym (ap (λ (x : Given). context m x ρ.opens) d.given);
        frame = record {
          kind = sym b.like.kind;
          results = ap (λ (x : BlockType). (signature_of m x).results) (sym b.like.block);
          params = λ k. ap (λ (x : BlockType). (signature_of m x).params) (sym b.like.block);
          before = at.locals ∙ same_set m σ.given ρ.given σ.inits b.inner.before d.given b.like.before;
        };
        locals = at.locals ∙ same_set m σ.given ρ.given σ.inits ρ.inits d.given d.inits;
      }

  placed_past : Placed m κ l.innermost.top outer g f set
  placed_past = record {
    opens = l.innermost.opens;
    context = at.context ∙ kept_context m σ.given κ.given σ.opens κ.opens p outer at.opens l.given l.innermost;
    frame = like_frame m σ.given κ.given p l.innermost.top f l.given l.innermost.like at.frame;
    locals = at.locals ∙ same_set m σ.given κ.given σ.inits κ.inits l.given l.inits;
  }

  at_nested : Built m body ρ κ v (inside j (label_of j type) g) inner_frame set → Built m more κ τ w g f set → Built m (nested o body more) σ τ WalksNested g f set
  at_nested x y =
      let low = lowest m κ.opens y.operands y.stands in
      let (rest, c, below) = (l.stacks low.operands).0 low.stands in
      record {
        operands = stack (entry_of j type) ++ rest;
        stands = (d.taken rest).1 c;
        from = λ k u c' known.
            let inner = x.from (stack type.params) ((d.stacks x.operands).0 x.stands) ((d.stacks (stack type.params)).1 (all_below_refl (stack type.params)))
            (λ n. (d.stacks (operands_in m ρ.opens)).0 (known_stacks m ρ.opens n)) in
            let past = y.from (stack type.results ++ rest) (all_below_trans (stack type.results ++ rest) low.operands y.operands below low.below)
            ((l.stacks (stack type.results ++ rest)).1 (rest, c, all_below_refl (stack type.results ++ rest)))
            (λ n. all_below_trans (stack type.results ++ rest) low.operands _ below (low.shown n)) in
            let opens : OpensFrame g o j type = subst (λ (z : Context). OpensFrame z o j type) (sym at.context) d.opens in
            ((j, type, rest, opens, u, inner.0, past.0), (shows m σ p outer g f set k at c' known, inner.1, past.1));
      }

-- ---- an operator between two parts of a frame

abbrev IsTry : FrameKind → Type 0
IsTry frames.LegacyTry = Unit {0}
IsTry frames.LegacyCatch = Unit {0}
IsTry k = ⊥

else_kind : (k j : FrameKind) → effect role.Else k ≡ Some (effects.Turns j) → (k ≡ frames.If) × (frames.Else ≡ j)
else_kind frames.If j e = (refl, cc)
else_kind frames.Block j e = cc
else_kind frames.Else j e = cc
else_kind frames.Loop j e = cc
else_kind frames.TryTable j e = cc
else_kind frames.LegacyTry j e = cc
else_kind frames.LegacyCatch j e = cc
else_kind frames.LegacyCatchAll j e = cc

clause_kind : (i k j : FrameKind) → clause i k ≡ Some (effects.Turns j) → IsTry k × (i ≡ j)
clause_kind i frames.LegacyTry j e = (tt, cc)
clause_kind i frames.LegacyCatch j e = (tt, cc)
clause_kind i frames.If j e = cc
clause_kind i frames.Block j e = cc
clause_kind i frames.Else j e = cc
clause_kind i frames.Loop j e = cc
clause_kind i frames.TryTable j e = cc
clause_kind i frames.LegacyCatchAll j e = cc

-- what a turn is, whichever it is
record IsTurn (m : Meaning) (w : Given) (o : Op) (j : FrameKind) (p : Open) (outer : List Open) : Type 0 where
  kind : part_kind o ≡ j
  no_if : part_kind o ≡ frames.If → ⊥
  within : in_part o (context m w (p ∷ outer)) ≡ context m w (begun j p.block p.before ∷ outer)
  other : (g : Context) (c : Signature) (ts : List ValueType) → Turns g (signature_of m p.block) o ts
      → (p.kind ≡ frames.If → c.params ≡ (signature_of m p.block).params) → Turns g c o ts

try_context : (m : Meaning) (w : Given) (b : BlockType) (outer : List Open) (k : FrameKind) → IsTry k → in_clause (context_by m w b outer k) ≡ context_by m w b outer frames.LegacyCatch
try_context m w b outer frames.LegacyTry t = refl
try_context m w b outer frames.LegacyCatch t = refl
try_context m w b outer k t = absurd t

is_turn : (m : Meaning) (w : Given) (g : Context) (b : Signature) (o : Op) (ts : List ValueType) (j : FrameKind) (p : Open) (outer : List Open) → Turns g b o ts
    → effect (role_of o) p.kind ≡ Some (effects.Turns j) → IsTurn m w o j p outer
is_turn m w g b (op.Control control.Else) ts j p outer t e =
    let k = else_kind p.kind j e in
    record {
      kind = k.1;
      no_if = λ n. cc;
      within = ap (context_by m w p.block outer) k.0 ∙ ap (context_by m w p.block outer) k.1;
      other = λ x c us u same. u ∙ sym (same k.0);
    }
is_turn m w g b (op.Exception (op.Catch x)) ts j p outer t e =
    let k = clause_kind frames.LegacyCatch p.kind j e in
    record {
      kind = k.1;
      no_if = λ n. cc;
      within = try_context m w p.block outer p.kind k.0 ∙ ap (context_by m w p.block outer) k.1;
      other = λ x c us u same. u;
    }
is_turn m w g b (op.Exception op.CatchAll) ts j p outer t e =
    let k = clause_kind frames.LegacyCatchAll p.kind j e in
    record {
      kind = k.1;
      no_if = λ n. cc;
      within = try_context m w p.block outer p.kind k.0 ∙ ap (context_by m w p.block outer) k.1;
      other = λ x c us u same. u;
    }
is_turn m w g b o ts j p outer t e = absurd t

module _ (m : Meaning) (o : Op) (more : Code) (σ ρ τ : State) (h : Leads m σ o ρ) (w : Walks m more ρ τ) (g : Context) (f : Frame) (set : Initialised)
    (p : Open) (outer : List Open) (at : Placed m σ p outer g f set) (j : FrameKind) (d : Turned m σ o j p outer ρ)
    (i : Innermost (begun j p.block p.before) outer ρ.opens) (n : IsTurn m σ.given o j p outer) where
  abbrev WalksTurned : Walks m (turn o more) σ τ
  WalksTurned = (ρ, h, w)

  placed_turned : Placed m ρ i.top outer (in_part o g) (other_part o f) f.before
  placed_turned = record {
    opens = i.opens;
    context = ap (in_part o) (at.context ∙ ap (context m σ.given) at.opens) ∙ n.within ∙ like_context m σ.given (begun j p.block p.before) i.top outer i.like
        ∙ ap (context m σ.given) (sym i.opens) ∙ sym (ap (λ (x : Given). context m x ρ.opens) d.given);
    frame = record {
      kind = n.kind ∙ sym i.like.kind;
      results = at.frame.results ∙ ap (λ (x : BlockType). (signature_of m x).results) (sym i.like.block);
      params = λ k. absurd (n.no_if k);
      before = at.frame.before ∙ same_set m σ.given ρ.given p.before i.top.before d.given i.like.before;
    };
    locals = at.frame.before ∙ same_set m σ.given ρ.given p.before ρ.inits d.given d.inits;
  }

  at_turned : Built m more ρ τ w (in_part o g) (other_part o f) f.before → Built m (turn o more) σ τ WalksTurned g f set
  at_turned x =
      let c : Stacks m σ (stack (results m p)) = subst (λ (y : List Open). StacksOf m y (stack (results m p))) (sym at.opens) d.ends in
      let turns : Turns g f.block o d.types = subst (λ (z : Context). Turns z f.block o d.types) (sym at.context)
      (n.other (context m σ.given σ.opens) f.block d.types d.turns (λ e. at.frame.params (at.frame.kind ∙ e))) in
      record {
        operands = stack (results m p);
        stands = c;
        from = λ k u c' known.
            let on = x.from (stack d.types) ((d.stacks x.operands).0 x.stands) ((d.stacks (stack d.types)).1 (all_below_refl (stack d.types)))
            (λ q. (d.stacks (operands_in m ρ.opens)).0 (known_stacks m ρ.opens q)) in
            ((d.types, turns, subst (λ (ts : List ValueType). AllBelow k (stack ts)) (sym at.frame.results) u, on.0), (shows m σ p outer g f set k at c' known, on.1));
      }

-- ---- all of it

built : (m : Meaning) (c : Code) (σ τ : State) (w : Walks m c σ τ) (g : Context) (f : Frame) (set : Initialised) (p : Open) (outer : List Open)
    → Placed m σ p outer g f set → IsIn p.kind c → Built m c σ τ w g f set
built m (close o) σ τ w g f set p outer at i = at_end m o σ τ w g f set p outer at i
built m (plain o more) σ τ (ρ, h, w) g f set p outer at i =
    let d = led m σ o ρ p outer effects.Stays at.opens i.0 h in
    let n = innermost σ.opens ρ.opens p outer at.opens d.frames in
    let k : IsIn n.top.kind more = subst (λ (x : FrameKind). IsIn x more) (sym n.like.kind) i.1 in
    at_plain m o more σ ρ τ h w g f set p outer at i.0
    (built m more ρ τ w g f (after o set) n.top outer (placed_after m o more σ ρ τ h w g f set p outer at i.0 n) k)
built m (nested o body more) σ τ (ρ, κ, h, v, w) g f set p outer at (j, i, inner, rest) =
    let d : Nested m σ o j ρ = led m σ o ρ p outer (effects.Nests j) at.opens i h in
    let b = begun_in m σ o j ρ p outer at.opens d in
    let k : IsIn b.inner.kind body = subst (λ (x : FrameKind). IsIn x body) (sym b.like.kind) inner in
    let l = around_it m σ o j ρ κ p outer d b (code_left m body ρ κ b.inner d.left b.opens k v) in
    let k' : IsIn l.innermost.top.kind more = subst (λ (x : FrameKind). IsIn x more) (sym l.innermost.like.kind) rest in
    at_nested m o body more σ ρ κ τ h v w g f set p outer at j d b l
    (built m body ρ κ v _ _ set b.inner d.left (placed_in m o body more σ ρ κ τ h v w g f set p outer at j d b l) k)
    (built m more κ τ w g f set l.innermost.top outer (placed_past m o body more σ ρ κ τ h v w g f set p outer at j d b l) k')
built m (turn o more) σ τ (ρ, h, w) g f set p outer at (j, i, rest) =
    let d : Turned m σ o j p outer ρ = led m σ o ρ p outer (effects.Turns j) at.opens i h in
    let a = same_innermost (begun j p.block p.before) outer ρ.opens d.frames in
    let n = is_turn m σ.given (context m σ.given σ.opens) (signature_of m p.block) o d.types j p outer d.turns i in
    let k : IsIn a.top.kind more = subst (λ (x : FrameKind). IsIn x more) (sym a.like.kind) rest in
    at_turned m o more σ ρ τ h w g f set p outer at j d a n
    (built m more ρ τ w _ _ f.before a.top outer (placed_turned m o more σ ρ τ h w g f set p outer at j d a n) k)

nothing_below : (m : Meaning) (s : List Operand) → Covers m false [] s → AllBelow [] s
nothing_below m [] c = tt
nothing_below m (t ∷ s) c = absurd c

pub shown_operands_are_a_typing : ShownOperandsAreATyping
shown_operands_are_a_typing m w b saved c τ walks i =
    let g = body_context m w b in
    let set = initialised_at_first w.params g.locals in
    let at : Placed m (fresh w b saved) (begun frames.Block b []) [] (inside frames.Block g.results g) (body_frame g set) set = record {
      opens = refl;
      context = refl;
      frame = record { kind = refl; results = refl; params = λ k. cc; before = refl };
      locals = refl;
    } in
    let x = built m c (fresh w b saved) τ walks (inside frames.Block g.results g) (body_frame g set) set (begun frames.Block b []) [] at i in
    let on = x.from [] (nothing_below m x.operands x.stands) tt (λ k. tt) in
    record { body = record { expression = i; typed = on.0 }; shown = on.1 }

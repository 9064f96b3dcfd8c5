-- What was kept, and what there is room for of the words.
use Rattle.std.proofs.Common.{ap, ◌-◌, ℕ, subst, Bool, true, false}
use Rattle.std.proofs.lemmas.Str.{IsCharBoundary-start}
use Rattle.wasm_types_decoding.specs.ErrorText.{Keeps}
use Rattle.wasm_types_decoding.proofs.Kept.{keeps_full, keeps_more}
use Rattle.wasm_types_decoding.proofs.message.Message.push.Goals as goal

pub returns-then-self : goal.returns-then-self
returns-then-self c text k =
    let full : Keeps text c.args.self.now.kept.bytes true = subst (λ (b : Bool). Keeps text c.args.self.now.kept.bytes b) c.if-self.true k in
    rw c.if-self.true (keeps_full text c.args.words.now c.args.self.now.kept.bytes full)

pub returns : goal.returns
returns c text k =
    let open_still : Keeps text c.args.self.now.kept.bytes false = subst (λ (b : Bool). Keeps text c.args.self.now.kept.bytes b) c.if-self.false k in
    rw (c.push_str.ensures.bytes, c.front.ensures.value) (keeps_more text c.args.words.now c.args.self.now.kept.bytes _
    (IsCharBoundary-start c.args.words.now c.utf8.words) open_still (ap (λ (n : ℕ). 256 - n) c.len-room.ensures.value))

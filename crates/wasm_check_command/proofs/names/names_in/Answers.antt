use Rattle.std.proofs.Common.{◌∙◌, ◌+◌, ◌-◌, List, ℕ, ap, arith, drop, length, map, rules, string_bytes, subst, sym, take}
use Rattle.std.proofs.lemmas.List.{map_push, take_rest}
use Rattle.wasm_check_command.proofs.NameLemmas.{AreSoFar, all_named, name_more_by}
use Rattle.wasm_check_command.proofs.names.names_in.Goals as goal

pub returns-then-start-list : goal.returns-then-start-list
returns-then-start-list c = all_named c.args.list.now (map string_bytes c.loop-turn.names.items) c.loop-turn.start (search rules) c.loop-turn.invariant.0

pub loop-turn-preserved : goal.loop-turn-preserved
loop-turn-preserved c = (
  subst (λ (texts : List (List ℕ)). AreSoFar c.args.list.now (c.loop-turn.start + c.name_length-length.result + 1) texts)
      (sym (ap (map string_bytes) c.in_ok-push.ensures.items ∙ map_push string_bytes c.loop-turn.names.items c.in_ok-name.name))
      (name_more_by c.args.list.now (map string_bytes c.loop-turn.names.items) c.loop-turn.start c.name_length-length.result
      (take (length c.args.list.now - c.loop-turn.start) (drop c.loop-turn.start c.args.list.now)) (string_bytes c.in_ok-name.name)
      (take_rest c.args.list.now c.loop-turn.start) (search rules) c.loop-turn.invariant.0 c.name_length-length.ensures.before
      c.name_length-length.ensures.ended c.in_ok-name.ensures),
  omega (arith, c.loop-turn.invariant.1),
)

pub returns : goal.returns
returns c =
    all_named c.args.list.now (map string_bytes c.loop-turn.names.items) c.loop-turn.start
    (omega (arith, c.loop-turn-test.false, c.loop-turn.invariant.1)) c.loop-turn.invariant.0

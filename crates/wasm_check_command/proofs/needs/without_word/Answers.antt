use Rattle.std.proofs.Common.{◌∙◌, ◌+◌, ◌++◌, ap, drop, subst, sym, take}
use Rattle.wasm_check_faults.specs.WordLists.{AreFeatures}
use Rattle.wasm_check_command.proofs.NeedsLemmas.{fewer_features, fewer_words}
use Rattle.wasm_check_command.proofs.needs.without_word.Goals as goal

pub returns-clause-known : goal.returns-clause-known
returns-clause-known c =
    fewer_features c.in_ok-fewer.fewer.items c.remove-left_out.new.self.items c.args.place c.remove-left_out.ensures.by_index.2
    (subst AreFeatures (sym c.in_ok-fewer.ensures.items) c.requires.known)

pub returns-clause-words : goal.returns-clause-words
returns-clause-words c =
    fewer_words c.args.words.now c.remove-left_out.new.self.items c.args.place
    (c.remove-left_out.ensures.by_index.2 ∙ ap (λ ws. take c.args.place ws ++ drop (c.args.place + 1) ws) c.in_ok-fewer.ensures.items)

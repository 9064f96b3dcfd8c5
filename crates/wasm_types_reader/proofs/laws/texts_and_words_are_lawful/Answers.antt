use Rattle.wasm_types_decoding.specs.ListLaws.{lawful-size_within, decides-size_within}
use Rattle.wasm_types_decoding.specs.TextLaws.{lawful-word, decides-word, lawful-name, decides-name, lawful-any_name, decides-any_name, lawful-skipped_name}
use Rattle.wasm_types_reader.specs.WordLaws.{lawful-u7, decides-u7}
use Rattle.wasm_types_reader.specs.PartLaws.{lawful-counted_part}
use Rattle.wasm_types_reader.proofs.laws.texts_and_words_are_lawful.Goals as goal

pub returns-clause-words : goal.returns-clause-words
returns-clause-words c = λ k. (lawful-word k, decides-word k)

pub returns-clause-small_bytes : goal.returns-clause-small_bytes
returns-clause-small_bytes c = (lawful-u7, decides-u7)

pub returns-clause-sizes : goal.returns-clause-sizes
returns-clause-sizes c = λ limit. (lawful-size_within limit, decides-size_within limit)

pub returns-clause-strings : goal.returns-clause-strings
returns-clause-strings c = λ limit. (lawful-name limit, decides-name limit)

pub returns-clause-unlimited_strings : goal.returns-clause-unlimited_strings
returns-clause-unlimited_strings c = (lawful-any_name, decides-any_name)

pub returns-clause-skipped_strings : goal.returns-clause-skipped_strings
returns-clause-skipped_strings c = lawful-skipped_name

pub returns-clause-parts : goal.returns-clause-parts
returns-clause-parts c = lawful-counted_part

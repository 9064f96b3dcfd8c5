-- An operator is spelled by its opcode and its immediates, and no other operator has the same ones.
use Rattle.std.proofs.Common.{◌≡◌, IsTrue, ℕ, List, ap}
use Rattle.wasm_types.specs.settings.Settings.{Settings}
use Rattle.wasm_operators_enums.specs.Op.{Op}
use Rattle.wasm_operators_enums.specs.Immediates.{is_canonical}
use Rattle.wasm_operators_enums.proofs.Codes.{apart}
use Rattle.wasm_operators_encoding.specs.Coded.{Coded, SpelledCoded}
use Rattle.wasm_operators_encoding.specs.Operators.{coded_of, SpelledOperator}
pub use Rattle.wasm_operators_encoding.specs.TableLaws.{own_kinds_at}

module _ (settings : Settings) (o : Op) (text : List ℕ) where
  pub spelled_to : SpelledOperator settings o text → IsTrue (is_canonical o) × SpelledCoded settings (coded_of o) text
  spelled_to h = (h.canonical, record { front = h.front; back = h.back; opcode = h.opcode; kinds = own_kinds_at o; carried = h.carried; whole = h.whole })

  pub spelled_from : IsTrue (is_canonical o) × SpelledCoded settings (coded_of o) text → SpelledOperator settings o text
  spelled_from h = record { canonical = h.0; front = h.1.front; back = h.1.back; opcode = h.1.opcode; carried = h.1.carried; whole = h.1.whole }

pub coded_apart : (a b : Op) → IsTrue (is_canonical a) → IsTrue (is_canonical b) → coded_of a ≡ coded_of b → a ≡ b
coded_apart a b f g e =
    apart a b f g (ap (λ (c : Coded). c.opcode.prefix) e) (ap (λ (c : Coded). c.opcode.code) e) (ap (λ (c : Coded). c.carried) e)

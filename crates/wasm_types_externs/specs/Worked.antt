-- Worked addresses and pages.
use Rattle.std.specs.Prelude.{◌≡◌, ◌^◌, true, false, Some, None}
use Rattle.wasm_types_values.specs.declared.value.ValType.TheVariants.{I32, I64}
use Rattle.wasm_types_externs.specs.Addresses.{address_type, page_bits}

pub record AddressesWorked : Type 0 where
  pub short_addresses : address_type false ≡ I32
  pub long_addresses : address_type true ≡ I64

pub record PagesWorked : Type 0 where
  pub usual_page : 2 ^ page_bits None ≡ 65536
  pub one_byte : 2 ^ page_bits (Some 0) ≡ 1
  pub written_page : 2 ^ page_bits (Some 16) ≡ 65536

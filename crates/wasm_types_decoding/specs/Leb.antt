-- Numbers in LEB128 (WebAssembly 3.0, binary format, values, integers): what their bytes are, and how they are read.
use Rattle.std.specs.Prelude.{◌≡◌, ℕ, zero, suc, ◌+◌, ◌-◌, ◌*◌, ◌^◌, ◌<◌, ◌≤◌, ℤ, pos, ◌+ℤ◌, ◌-ℤ◌, ◌*ℤ◌, List, [], ◌∷◌, ◌++◌, length, nat_lt, if◌then◌else◌}
use Rattle.wasm_types_decoding.specs.declared.Refusal.TheVariants.{Other}
use Rattle.wasm_types_decoding.specs.Decoder.{Decoder, Grammar, ◌>>=◌, pure, refuse, byte, repeated, Many}

-- standard: binary-int: uN
-- uN ::= n:byte         => n                          if n < 2^7 and n < 2^N
--      | n:byte m:u(N-7) => 2^7 * m + (n - 2^7)        if n >= 2^7 and N > 7
pub data IsUnsigned : ℕ → ℕ → List ℕ → Type 0 where
  last : (N v n : ℕ) → n < 2 ^ 7 → n < 2 ^ N → v ≡ n → IsUnsigned N v (n ∷ [])
  more : (N v n m : ℕ) (text : List ℕ) → 2 ^ 7 ≤ n → 7 < N → IsUnsigned (N - 7) m text → v ≡ 2 ^ 7 * m + (n - 2 ^ 7)
      → IsUnsigned N v (n ∷ text)

-- a number of 7 * k + r bits, in at most k + 1 bytes
unfoldable pub unsigned : ℕ → ℕ → Decoder ℕ
unsigned zero r = byte >>= λ b. if nat_lt b (2 ^ r) then pure b else refuse Other 1
unsigned (suc k) r = byte >>= λ b. if nat_lt b 128 then pure b else (unsigned k r >>= λ m. pure (128 * m + (b - 128)))

-- the widths that the format has: 32 = 7 * 4 + 4 bits
abbrev pub u32 : Decoder ℕ
u32 = unsigned 4 4

-- 64 = 7 * 9 + 1 bits
abbrev pub u64 : Decoder ℕ
u64 = unsigned 9 1

-- standard: binary-int: sN
-- sN ::= n:byte           => n                         if n < 2^6 and n < 2^(N-1)
--      | n:byte           => n - 2^7                   if 2^6 <= n < 2^7 and n >= 2^7 - 2^(N-1)
--      | n:byte m:s(N-7)  => 2^7 * m + (n - 2^7)       if n >= 2^7 and N > 7
-- (a difference of natural numbers stops at 0 here, which no byte is below)
pub data IsSigned : ℕ → ℤ → List ℕ → Type 0 where
  nonnegative : (N : ℕ) (v : ℤ) (n : ℕ) → n < 2 ^ 6 → n < 2 ^ (N - 1) → v ≡ pos n → IsSigned N v (n ∷ [])
  negative : (N : ℕ) (v : ℤ) (n : ℕ) → 2 ^ 6 ≤ n → n < 2 ^ 7 → 2 ^ 7 - 2 ^ (N - 1) ≤ n → v ≡ pos n -ℤ pos (2 ^ 7) → IsSigned N v (n ∷ [])
  longer : (N : ℕ) (v : ℤ) (n : ℕ) (m : ℤ) (text : List ℕ) → 2 ^ 7 ≤ n → 7 < N → IsSigned (N - 7) m text
      → v ≡ pos (2 ^ 7) *ℤ m +ℤ pos (n - 2 ^ 7) → IsSigned N v (n ∷ text)

-- the number that seven bits are, of which the highest is the sign
abbrev pub seven_bits : ℕ → ℤ
seven_bits b = if nat_lt b 64 then pos b else (pos b -ℤ pos 128)

-- r of a last byte's seven bits: all above them are as the sign, the highest of the r
unfoldable pub last_bits : ℕ → ℕ → Decoder ℤ
last_bits r b = if nat_lt b (2 ^ (r - 1)) then pure (pos b) else
    (if nat_lt b (128 - 2 ^ (r - 1)) then refuse Other 1 else (if nat_lt b 128 then pure (pos b -ℤ pos 128) else refuse Other 1))

-- a signed number of 7 * k + r bits, in at most k + 1 bytes
unfoldable pub signed : ℕ → ℕ → Decoder ℤ
signed zero r = byte >>= last_bits r
signed (suc k) r = byte >>= λ b. if nat_lt b 128 then pure (seven_bits b) else (signed k r >>= λ m. pure (pos 128 *ℤ m +ℤ pos (b - 128)))

-- 32 bits with a sign
abbrev pub s32 : Decoder ℤ
s32 = signed 4 4

-- 33 bits with a sign, as for a block type and a heap type
abbrev pub s33 : Decoder ℤ
s33 = signed 4 5

-- 64 bits with a sign
abbrev pub s64 : Decoder ℤ
s64 = signed 9 1

-- a count, and as many values
unfoldable pub listed : {A : Type 0} → Decoder A → Decoder (List A)
listed d = u32 >>= λ n. repeated n d

-- standard: binary-list: list(X)
-- list(X) ::= n:u32 (x:X)^n => x^n (binary format, conventions, lists)
pub record IsListed {A : Type 0} (g : Grammar A) (xs : List A) (text : List ℕ) : Type 0 where
  pub count : List ℕ
  pub values : List ℕ
  pub counted : IsUnsigned 32 (length xs) count
  pub each : Many g (length xs) xs values
  pub whole : text ≡ count ++ values

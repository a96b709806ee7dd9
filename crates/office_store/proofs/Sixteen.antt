-- Sixteen bytes of a number, most significant first, give it back, also where it has a sign.
use Rattle.std.proofs.Common.{◌≡◌, ℕ, ℤ, pos, negsuc, ◌+◌, ◌*◌, ◌/◌, ◌%◌, ◌^◌, ◌<◌, ap, ◌∙◌, arith}
use Rattle.std.specs.Int.{w128, to_be_bytes, from_be_bytes, cast_signed, cast_unsigned}
use Rattle.std.specs.Int.RustNames.{FitsSigned}
use Rattle.std.proofs.Math.Nat.{div-div-eq-div-mul}
use Rattle.std.proofs.lemmas.Int.{to_z-of_z}

byte_and_rest : (n p : ℕ) → n / p ≡ n / p % 256 + n / (p * 256) * 256
byte_and_rest n p = omega (arith, div-div-eq-div-mul n p 256)

-- eight bytes, and what is above them
eight : (n a b c d e f g h p q r s t u v w : ℕ) → n ≡ a + p * 256 → p ≡ b + q * 256 → q ≡ c + r * 256 → r ≡ d + s * 256 → s ≡ e + t * 256 → t ≡ f + u * 256 → u ≡ g + v * 256 → v ≡ h + w * 256
    → n ≡ a + b * 256 + c * 65536 + d * 16777216 + e * 4294967296 + f * 1099511627776 + g * 281474976710656 + h * 72057594037927936 + w * 18446744073709551616
eight n a b c d e f g h p q r s t u v w at_0 at_1 at_2 at_3 at_4 at_5 at_6 at_7 = omega arith

sixteen : (n a b c d e f g h i j k l m o p q w : ℕ)
    → n ≡ a + b * 256 + c * 65536 + d * 16777216 + e * 4294967296 + f * 1099511627776 + g * 281474976710656 + h * 72057594037927936 + w * 18446744073709551616
    → w ≡ i + j * 256 + k * 65536 + l * 16777216 + m * 4294967296 + o * 1099511627776 + p * 281474976710656 + q * 72057594037927936 + 0 * 18446744073709551616
    → q * 1329227995784915872903807060280344576 + p * 5192296858534827628530496329220096 + o * 20282409603651670423947251286016 + m * 79228162514264337593543950336 + l * 309485009821345068724781056 + k * 1208925819614629174706176 + j * 4722366482869645213696 + i * 18446744073709551616 + h * 72057594037927936 + g * 281474976710656 + f * 1099511627776 + e * 4294967296 + d * 16777216 + c * 65536 + b * 256 + a ≡ n
sixteen n a b c d e f g h i j k l m o p q w low high = omega arith

pub from_be_bytes-to_be_bytes_16 : (n : ℕ) → n < 2 ^ 128 → from_be_bytes w128 (to_be_bytes w128 n) ≡ n
from_be_bytes-to_be_bytes_16 n fits =
    let first : n ≡ n % 256 + n / 256 * 256 = omega arith in
    let last : n / 1329227995784915872903807060280344576 ≡ n / 1329227995784915872903807060280344576 % 256 + 0 * 256 = omega arith in
    let low = eight n (n % 256) (n / 256 % 256) (n / 65536 % 256) (n / 16777216 % 256) (n / 4294967296 % 256) (n / 1099511627776 % 256) (n / 281474976710656 % 256) (n / 72057594037927936 % 256) (n / 256) (n / 65536) (n / 16777216) (n / 4294967296) (n / 1099511627776) (n / 281474976710656) (n / 72057594037927936) (n / 18446744073709551616) first (byte_and_rest n 256) (byte_and_rest n 65536) (byte_and_rest n 16777216) (byte_and_rest n 4294967296) (byte_and_rest n 1099511627776) (byte_and_rest n 281474976710656) (byte_and_rest n 72057594037927936) in
    let high = eight (n / 18446744073709551616) (n / 18446744073709551616 % 256) (n / 4722366482869645213696 % 256) (n / 1208925819614629174706176 % 256) (n / 309485009821345068724781056 % 256) (n / 79228162514264337593543950336 % 256) (n / 20282409603651670423947251286016 % 256) (n / 5192296858534827628530496329220096 % 256) (n / 1329227995784915872903807060280344576 % 256) (n / 4722366482869645213696) (n / 1208925819614629174706176) (n / 309485009821345068724781056) (n / 79228162514264337593543950336) (n / 20282409603651670423947251286016) (n / 5192296858534827628530496329220096) (n / 1329227995784915872903807060280344576) 0 (byte_and_rest n 18446744073709551616) (byte_and_rest n 4722366482869645213696) (byte_and_rest n 1208925819614629174706176) (byte_and_rest n 309485009821345068724781056) (byte_and_rest n 79228162514264337593543950336) (byte_and_rest n 20282409603651670423947251286016) (byte_and_rest n 5192296858534827628530496329220096) last in
    sixteen n (n % 256) (n / 256 % 256) (n / 65536 % 256) (n / 16777216 % 256) (n / 4294967296 % 256) (n / 1099511627776 % 256) (n / 281474976710656 % 256) (n / 72057594037927936 % 256) (n / 18446744073709551616 % 256) (n / 4722366482869645213696 % 256) (n / 1208925819614629174706176 % 256) (n / 309485009821345068724781056 % 256) (n / 79228162514264337593543950336 % 256) (n / 20282409603651670423947251286016 % 256) (n / 5192296858534827628530496329220096 % 256) (n / 1329227995784915872903807060280344576 % 256) (n / 18446744073709551616) low high

unsigned_fits : (z : ℤ) → FitsSigned w128 z → cast_unsigned w128 z < 2 ^ 128
unsigned_fits (pos n) h = omega (arith, h.sfits)
unsigned_fits (negsuc n) h = omega arith

pub signed_back : (z : ℤ) → FitsSigned w128 z → cast_signed w128 (from_be_bytes w128 (to_be_bytes w128 (cast_unsigned w128 z))) ≡ z
signed_back z fits = ap (cast_signed w128) (from_be_bytes-to_be_bytes_16 (cast_unsigned w128 z) (unsigned_fits z fits)) ∙ to_z-of_z w128 z fits

-- The text of an address has the form that is read as that address.
use Rattle.std.proofs.Common.{◌≡◌, ◌∙◌, ℕ, ◌+◌, ◌*◌, ◌/◌, ◌%◌, ◌^◌, ◌<◌, ◌≤◌, List, [], ◌∷◌, ◌++◌, append_assoc, arith}
use Rattle.std.specs.Prelude.{decimal}
use Rattle.actor_names.specs.declared.address.Address.{Address}
use Rattle.actor_names.specs.Forms.{AddressText}
use Rattle.call_names.specs.Texts.{ip_text, address_text}
use Rattle.call_names.proofs.CallTexts.{behind}

four_bytes : (ip : ℕ) → ip < 2 ^ 32 → ip ≡ ((ip / 2 ^ 24 % 256 * 256 + ip / 2 ^ 16 % 256) * 256 + ip / 2 ^ 8 % 256) * 256 + ip % 256
four_bytes ip fits = omega arith

byte_fits : (n : ℕ) → n % 256 ≤ 255
byte_fits n = omega arith

pub address_form : (a : Address) → a.ip < 2 ^ 32 → a.port < 2 ^ 16 → AddressText a (address_text a)
unfolding ip_text address_text
address_form a ip port =
    record {
      a = a.ip / 2 ^ 24 % 256;
      b = a.ip / 2 ^ 16 % 256;
      c = a.ip / 2 ^ 8 % 256;
      d = a.ip % 256;
      a_fits = byte_fits _;
      b_fits = byte_fits _;
      c_fits = byte_fits _;
      d_fits = byte_fits _;
      port_fits = omega arith;
      ip_is = four_bytes a.ip ip;
      text_is = chained (decimal (a.ip / 2 ^ 24 % 256)) (decimal (a.ip / 2 ^ 16 % 256)) (decimal (a.ip / 2 ^ 8 % 256)) (decimal (a.ip % 256)) (decimal a.port);
    }
  where
    chained : (a b c d port : List ℕ) → (((((((a ++ (46 ∷ [])) ++ b) ++ (46 ∷ [])) ++ c) ++ (46 ∷ [])) ++ d) ++ (58 ∷ [])) ++ port ≡ a ++ (46 ∷ (b ++ (46 ∷ (c ++ (46 ∷ (d ++ (58 ∷ port)))))))
    chained a b c d port =
        append_assoc ((((((a ++ (46 ∷ [])) ++ b) ++ (46 ∷ [])) ++ c) ++ (46 ∷ [])) ++ d) (58 ∷ []) port
        ∙ behind ((((a ++ (46 ∷ [])) ++ b) ++ (46 ∷ [])) ++ c) 46 d (58 ∷ port)
        ∙ behind ((a ++ (46 ∷ [])) ++ b) 46 c (46 ∷ (d ++ (58 ∷ port)))
        ∙ behind a 46 b (46 ∷ (c ++ (46 ∷ (d ++ (58 ∷ port)))))

-- A list of four, by its parts.
use Rattle.std.proofs.Common.{◌≡◌, List, [], ◌∷◌, length, get_or, arith}

pub by_parts : {A : Type 0} {a b c d a' b' c' d' : A} → a ≡ a' → b ≡ b' → c ≡ c' → d ≡ d' → a ∷ b ∷ c ∷ d ∷ [] ≡ a' ∷ b' ∷ c' ∷ d' ∷ []
by_parts p q r s i = p i ∷ q i ∷ r i ∷ s i ∷ []

pub of_four : {A : Type 0} (xs : List A) (e : A) {a b c d : A} → length xs ≡ 4 →
    get_or xs 0 e ≡ a → get_or xs 1 e ≡ b → get_or xs 2 e ≡ c → get_or xs 3 e ≡ d → xs ≡ a ∷ b ∷ c ∷ d ∷ []
of_four [] e h p q r s = absurd (omega (arith, h))
of_four (_ ∷ []) e h p q r s = absurd (omega (arith, h))
of_four (_ ∷ _ ∷ []) e h p q r s = absurd (omega (arith, h))
of_four (_ ∷ _ ∷ _ ∷ []) e h p q r s = absurd (omega (arith, h))
of_four (_ ∷ _ ∷ _ ∷ _ ∷ []) e h p q r s = by_parts p q r s
of_four (_ ∷ _ ∷ _ ∷ _ ∷ _ ∷ _) e h p q r s = absurd (omega (arith, h))

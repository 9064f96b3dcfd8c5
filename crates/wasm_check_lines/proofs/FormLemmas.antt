-- On texts that were formatted of several parts.
use Rattle.std.proofs.Common.{◌≡◌, ℕ, List, ◌++◌, IfOk, IfSome, Some, Result, append_assoc}
use Rattle.std.specs.Fmt.{◌++?◌}
use Rattle.std.proofs.lemmas.Result.{IfOk-weaker}

module _ {S E : Type 0} (bytes : S → List ℕ) (r : Result S E) (a b d e f g h : List ℕ) where
  -- of seven parts: what follows a line is put behind it
  pub text_of_7 : IfOk r (λ s. IfSome (Some a ++? Some b ++? Some d ++? Some e ++? Some f ++? Some g ++? Some h) (λ bs. bytes s ≡ bs))
      → IfOk r (λ s. bytes s ≡ (a ++ b ++ d ++ e ++ f ++ g) ++ h)
  text_of_7 k = IfOk-weaker r _ _ (λ s x. simp append_assoc x) k

  -- of eleven
  pub text_of_11 : (i j k l : List ℕ)
      → IfOk r (λ s. IfSome (Some a ++? Some b ++? Some d ++? Some e ++? Some f ++? Some g ++? Some h ++? Some i ++? Some j ++? Some k ++? Some l) (λ bs. bytes s ≡ bs))
      → IfOk r (λ s. bytes s ≡ a ++ b ++ d ++ e ++ f ++ g ++ h ++ i ++ j ++ k ++ l)
  text_of_11 i j k l x = IfOk-weaker r _ _ (λ s y. simp append_assoc y) x

-- A value is put at its key, and its errors behind those before (6.4.4).
use Rattle.std.proofs.Common.{◌≡◌, Bool, true, false, ◌&&◌, List, ◌++◌, sym, ap, ◌∙◌}
use Rattle.graphql_spec.specs.Shown.{Name}
use Rattle.graphql_spec.specs.Values.{Value, Entries, is_null, put}
use Rattle.graphql_spec.specs.Errors.{Listed}
use Rattle.graphql_spec.specs.Skeletons.{Skeleton, fill}
use Rattle.juniper_assemble.specs.SkeletonView.{IsFilledFrom}
use Rattle.juniper_walk.specs.PlanWalks.{IsPut}

module _ (k : Name) (r : Bool) (s : Skeleton) (vs ws left : List Value) (v : Value) (more : List Listed) (es : Entries) (errors all : List Listed)
    (same : ws ≡ vs) (filled : IsFilledFrom (fill s ws) v left) (listed : all ≡ errors ++ more) where
  value-is : v ≡ (fill s vs).value
  value-is = filled.value ∙ ap (λ l. (fill s l).value) same

  pub put-rising : (rises : Bool) → rises ≡ (is_null v && r) → rises ≡ true → IsPut k r s vs more true es es errors all
  put-rising rises a b = record {
    lists = listed;
    loses = sym b ∙ (a ∙ ap (λ x. is_null x && r) value-is);
    puts = λ e. cc;
  }

  pub put-kept : (rises : Bool) (made : Entries) → rises ≡ (is_null v && r) → rises ≡ false → made ≡ put k v es →
      IsPut k r s vs more false es made errors all
  put-kept rises made a b is = record {
    lists = listed;
    loses = sym b ∙ (a ∙ ap (λ x. is_null x && r) value-is);
    puts = λ e. is ∙ ap (λ x. put k x es) value-is;
  }

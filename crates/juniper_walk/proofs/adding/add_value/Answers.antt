use Rattle.juniper_walk.proofs.Holes.{filled-first, listed-behind}
use Rattle.juniper_walk.proofs.Put.{put-kept, put-rising}
use Rattle.juniper_walk.proofs.adding.add_value.Goals as goal
use Rattle.std.proofs.Common.{refl}

pub returns-then-rises : goal.returns-then-rises
returns-then-rises g c =
    let shown = g.S.ScalarValue.shown in
    let taken = c.in_ok-value.ensures.taken in
    record {
      put_in = put-rising _ _ _ _ _ _ _ _ _ _ _ refl (filled-first _ _ _ _ c.in_ok-value.ensures.value)
          (listed-behind shown _ _ _ _ _ c.in_ok-append.ensures.items taken.listed)
          c.does_rise-rises.result c.does_rise-rises.ensures c.if-rises.true;
      left = taken.left_over;
    }

pub returns : goal.returns
returns g c =
    let shown = g.S.ScalarValue.shown in
    let taken = c.in_ok-value.ensures.taken in
    record {
      put_in = put-kept _ _ _ _ _ _ _ _ _ _ _ refl (filled-first _ _ _ _ c.in_ok-value.ensures.value)
          (listed-behind shown _ _ _ _ _ c.in_ok-append.ensures.items taken.listed)
          c.does_rise-rises.result _ c.does_rise-rises.ensures c.if-rises.false c.in_ok-put_field.ensures.ok;
      left = taken.left_over;
    }

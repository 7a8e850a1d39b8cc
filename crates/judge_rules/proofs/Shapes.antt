-- Which order conditions are asked in makes no difference.
use Rattle.std.proofs.Common.{◌≡◌, Bool, true, false, ◌&&◌, ◌||◌, refl}

pub one : (a : Bool) → (a && true) ≡ (a)
one false = refl
one true = refl

pub two : (a b : Bool) → (a && (b && true)) ≡ (a && b)
two false b = refl
two true false = refl
two true true = refl

pub three : (a b c : Bool) → (a && (b && (c && true))) ≡ ((a && b) && c)
three false b c = refl
three true false c = refl
three true true false = refl
three true true true = refl

pub four : (a b c d : Bool) → (a && (b && (c && (d && true)))) ≡ (((a && b) && c) && d)
four false b c d = refl
four true false c d = refl
four true true false d = refl
four true true true false = refl
four true true true true = refl

pub five : (a b c d e : Bool) → (a && (b && (c && (d && (e && true))))) ≡ ((((a && b) && c) && d) && e)
five false b c d e = refl
five true false c d e = refl
five true true false d e = refl
five true true true false e = refl
five true true true true false = refl
five true true true true true = refl

pub turned : (d h : Bool) → (h && (d && true)) ≡ (d && h)
turned false false = refl
turned false true = refl
turned true false = refl
turned true true = refl

pub turned_three : (d h a : Bool) → (h && (a && (d && true))) ≡ ((d && h) && a)
turned_three false false a = refl
turned_three false true false = refl
turned_three false true true = refl
turned_three true false a = refl
turned_three true true false = refl
turned_three true true true = refl

pub making_is : (a h c m f s n : Bool) → (a && (h && ((c && m) && (f && ((s && n) && true))))) ≡ ((((((a && h) && c) && m) && f) && s) && n)
making_is false h c m f s n = refl
making_is true false c m f s n = refl
making_is true true false m f s n = refl
making_is true true true false f s n = refl
making_is true true true true false s n = refl
making_is true true true true true false n = refl
making_is true true true true true true false = refl
making_is true true true true true true true = refl

pub entering_is : (d h s a c r p : Bool) → (h && (s && (a && (c && (r && (p && (d && true))))))) ≡ (((((d && h) && s) && a) && c) && (r && p))
entering_is false false s a c r p = refl
entering_is false true false a c r p = refl
entering_is false true true false c r p = refl
entering_is false true true true false r p = refl
entering_is false true true true true false p = refl
entering_is false true true true true true false = refl
entering_is false true true true true true true = refl
entering_is true false s a c r p = refl
entering_is true true false a c r p = refl
entering_is true true true false c r p = refl
entering_is true true true true false r p = refl
entering_is true true true true true false p = refl
entering_is true true true true true true false = refl
entering_is true true true true true true true = refl

pub stale_is : (d h l t p n : Bool) → (h && (l && (t && (p && (n && (d && true)))))) ≡ (((((d && h) && l) && t) && p) && n)
stale_is false false l t p n = refl
stale_is false true false t p n = refl
stale_is false true true false p n = refl
stale_is false true true true false n = refl
stale_is false true true true true false = refl
stale_is false true true true true true = refl
stale_is true false l t p n = refl
stale_is true true false t p n = refl
stale_is true true true false p n = refl
stale_is true true true true false n = refl
stale_is true true true true true false = refl
stale_is true true true true true true = refl

pub trying_is : (f b t h p s : Bool) → (b && (t && (h && (p && (s && (f && true)))))) ≡ (((((f && b) && t) && h) && p) && s)
trying_is false false t h p s = refl
trying_is false true false h p s = refl
trying_is false true true false p s = refl
trying_is false true true true false s = refl
trying_is false true true true true false = refl
trying_is false true true true true true = refl
trying_is true false t h p s = refl
trying_is true true false h p s = refl
trying_is true true true false p s = refl
trying_is true true true true false s = refl
trying_is true true true true true false = refl
trying_is true true true true true true = refl

pub no_port_is : (d m b f : Bool) → ((m || b) && (((d && m) || (b && f)) && true)) ≡ ((d && m) || (b && f))
no_port_is false false false f = refl
no_port_is false true false f = refl
no_port_is false false true false = refl
no_port_is false true true false = refl
no_port_is false false true true = refl
no_port_is false true true true = refl
no_port_is true false false f = refl
no_port_is true false true false = refl
no_port_is true false true true = refl
no_port_is true true b f = refl

pub taking_is : (h a b : Bool) → (h && (a && (b && true))) ≡ (h && (a && b))
taking_is false a b = refl
taking_is true false b = refl
taking_is true true false = refl
taking_is true true true = refl

pub posting_is : (a b c d t : Bool) → (a && (b && (c && (d && t)))) ≡ ((((a && b) && c) && d) && t)
posting_is false b c d t = refl
posting_is true false c d t = refl
posting_is true true false d t = refl
posting_is true true true d t = refl

pub requesting_is : (s x : Bool) → (s && ((s && x) && true)) ≡ (s && x)
requesting_is false x = refl
requesting_is true false = refl
requesting_is true true = refl

pub group_making_is : (p n m : Bool) → (p && (m && (n && true))) ≡ ((p && n) && m)
group_making_is false n m = refl
group_making_is true false false = refl
group_making_is true false true = refl
group_making_is true true false = refl
group_making_is true true true = refl

pub joining_is : (p g n f : Bool) → (p && (g && (n && (f && true)))) ≡ (((p && g) && n) && f)
joining_is false g n f = refl
joining_is true false n f = refl
joining_is true true false f = refl
joining_is true true true false = refl
joining_is true true true true = refl

-- What the editions of a sheet have. No open call's contract cites it, so nothing here is to be believed.
use Rattle.std.specs.Prelude.{Bool, true, false}
use Rattle.following.specs.declared.Edition.{Edition}
use Rattle.following.specs.declared.Edition.TheVariants.{First, Second}

-- strides, in the second one
abbrev pub has_strides : Edition → Bool
has_strides First = false
has_strides Second = true

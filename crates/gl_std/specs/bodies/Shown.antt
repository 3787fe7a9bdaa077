-- What the values stand for by which the code says what a line says.
use Rattle.gl_std.specs.Line.{Operation, Shape}
use Rattle.gl_std.specs.Line.Operation.{Acquire, Release, TryAcquire, Fork, Join}
use Rattle.gl_std.specs.Line.Shape.{Blank, Bad, Other, Call}
use Rattle.gl_std.specs.declared.line.Operation.{Operation as OperationValue}
use Rattle.gl_std.specs.declared.line.Operation.TheVariants.{Acquire as AcquireValue, Release as ReleaseValue, TryAcquire as TryAcquireValue, Fork as ForkValue, Join as JoinValue}
use Rattle.gl_std.specs.declared.line.Shape.{Shape as ShapeValue}
use Rattle.gl_std.specs.declared.line.Shape.TheVariants.{Blank as BlankValue, Bad as BadValue, Other as OtherValue, Call as CallValue}

-- the operation
abbrev pub shown_operation : OperationValue → Operation
shown_operation (AcquireValue mode) = Acquire mode
shown_operation (ReleaseValue mode) = Release mode
shown_operation (TryAcquireValue mode) = TryAcquire mode
shown_operation ForkValue = Fork
shown_operation JoinValue = Join

-- what the line says
abbrev pub shown : ShapeValue → Shape
shown BlankValue = Blank
shown (BadValue kind) = Bad kind
shown OtherValue = Other
shown (CallValue operation thread operand location) =
    Call (shown_operation operation) thread.now operand.now location.now

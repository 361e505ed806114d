pub mod StepsTo

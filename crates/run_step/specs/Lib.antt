pub mod StepsBy
